-- What a visit sees, and where the moves lead.
use Rattle.std.proofs.Common.{ℕ, zero, suc, ◌≡◌, ◌+◌, ◌-◌, map, ◌<◌, ◌≤◌, List, [], ◌∷◌, ◌++◌, Bool, true, false, MatchBool, Vec, Global, get_or, length, slice_get, Some}
use Rattle.std.proofs.Common.{None, refl, sym, ap, ◌∙◌, subst, arith}
use Rattle.std.proofs.lemmas.List.{length-append, map-append}
use Rattle.std.proofs.lemmas.Option.{slice_get_within}
use Rattle.rewriting.specs.Rules as math
use Rattle.rewriting.specs.Prelude.{IsSystem, Head, heads, unraveled}
use Rattle.term_core.specs.HeadView.{head_view}
use Rattle.term_core.specs.declared.systems.Head as code
use Rattle.path_orders.specs.Precedences.{Precedence, IsGood}
use Rattle.path_orders.specs.Dead.{IsDead}
use Rattle.lpo.specs.Answers.{IsOf}
use Rattle.lpo.specs.Places.{ArePlaces}
use Rattle.lpo.specs.Listed.{AreListed, ListedAnswers}
use Rattle.unravel.specs.Listed.{listed}
use Rattle.lpo.specs.Rules.{DeadAnswers}
use Rattle.lpo.proofs.Placing.{within_heads}
use Rattle.lpo.proofs.Judging.{dead_there, dead_answers, whole}
use Rattle.precedence_search.specs.Walks.{FreeAnswers, HasComeTo, HasDoneWith, HasItsPlaces, HasHeads, GoesDown, GoesOn, IsAliveBefore, IsLonger}
use Rattle.precedence_search.proofs.Completing.{none_completed, alive_ordered}
use Rattle.precedence_search.proofs.Turning.{full_placed, last_known, none_free}
use Rattle.precedence_search.proofs.Walking as walking

module _ (sys : math.System) (hs : List Head) (rs : List math.Rule) (of : IsOf sys hs rs) (order : Precedence) (ps : List ℕ) (a : HasItsPlaces hs order ps) where
  places_of : ArePlaces (heads sys) order (length order) ps
  places_of = subst (λ z. ArePlaces z order (length order) ps) of.heads_are a

  pub sees_dead : DeadAnswers ps rs true → IsDead sys order
  sees_dead h = dead_there sys order ps places_of (subst (λ z. DeadAnswers ps z true) of.rules_are h)

  pub sees_one : (b : Bool) → DeadAnswers ps rs b → MatchBool b (IsDead sys order) (IsDead sys order → ⊥)
  sees_one b h = dead_answers sys order ps places_of b (subst (λ z. DeadAnswers ps z b) of.rules_are h)

  pub fewer : (length order ≡ length hs → ⊥) → length order < length (heads sys)
  fewer other = let most = within_heads (heads sys) order (length order) ps places_of in let same = ap length of.heads_are in omega (arith, other, most, same)

  pub is_whole : length order ≡ length hs → length order ≡ length (heads sys)
  is_whole e = e ∙ ap length of.heads_are

  pub sees_good : IsSystem (unraveled sys) → length order ≡ length hs → (IsDead sys order → ⊥) → IsGood sys order
  sees_good sound e alive = record { precedence = whole sys order ps places_of (λ m. full m.0 m.1 m.2); rules = alive_ordered sys order ps places_of full sound alive }
    where
      full : (f : ℕ) → f < length ps → get_or ps f 0 ≡ 0 → ⊥
      full = full_placed ps (let few = places_of.few in let many = places_of.as_many in let all = is_whole e in omega (arith, few, many, all))

-- the last symbol, with its rules
module _ (sys : math.System) (hs : List Head) (rs : List math.Rule) (of : IsOf sys hs rs) (before : Precedence) (h : Head) (f : ℕ) (is : slice_get hs f ≡ Some h) (ps : List ℕ)
    (a : HasItsPlaces hs (before ++ h ∷ []) ps) where
  pub sees_last : (lists : List (Vec ℕ Global)) (count : ℕ) (b : Bool) → AreListed rs count lists → length rs ≤ count → f < length lists → ListedAnswers ps rs (listed lists f) b
      → IsAliveBefore sys (before ++ h ∷ []) → MatchBool b (IsDead sys (before ++ h ∷ [])) (IsDead sys (before ++ h ∷ []) → ⊥)
  sees_last lists count true all most inside answer alive = sees_dead sys hs rs of (before ++ h ∷ []) ps a answer
  sees_last lists count false all most inside answer alive =
      none_completed sys before h f (subst (λ z. slice_get z f ≡ Some h) of.heads_are is) ps (listed lists f) (places_of sys hs rs of (before ++ h ∷ []) ps a)
      (subst (λ z. ListedAnswers ps z (listed lists f) false) of.rules_are answer)
      (λ n r at o. let own = subst (λ z. slice_get z n ≡ Some r) (sym of.rules_are) at in let within = slice_get_within rs n r own in all.all f n r inside (omega (arith, within, most)) own o)
      (alive before h refl)

-- the last of the symbols
pub last_split : {A : Type 0} (xs : List A) (n : ℕ) (x : A) → n + 1 ≡ length xs → slice_get xs n ≡ Some x → (before : List A) × (xs ≡ before ++ x ∷ [])
last_split [] n x e at = absurd (cc)
last_split (y ∷ []) zero x e at = ([], (let same : y ≡ x = cc in ap (λ z. z ∷ []) same))
last_split (y ∷ (z ∷ xs)) zero x e at = absurd (omega (arith, e))
last_split (y ∷ xs) (suc n) x e at = let rest = last_split xs n x (omega (arith, e)) at in (y ∷ rest.0, ap (λ zs. y ∷ zs) rest.1)

pub last_shown : (items : List code.Head) (x : code.Head) → slice_get items (length items - 1) ≡ Some x → (before : Precedence) × (map head_view items ≡ before ++ head_view x ∷ [])
last_shown items x e =
    let within = slice_get_within items (length items - 1) x e in
    let split = last_split items (length items - 1) x (omega (arith, within)) e in
    (map head_view split.0, ap (map head_view) split.1 ∙ map-append head_view split.0 (x ∷ []))

pub sees_order : (sys : math.System) (hs : List Head) (rs : List math.Rule) → IsOf sys hs rs → (order before : Precedence) (h : Head) (f : ℕ) → order ≡ before ++ h ∷ [] → slice_get hs f ≡ Some h
    → (ps : List ℕ)
    → HasItsPlaces hs order ps → (lists : List (Vec ℕ Global)) (count : ℕ) (b : Bool) → AreListed rs count lists → length rs ≤ count → f < length lists → ListedAnswers ps rs (listed lists f) b
    → IsAliveBefore sys order → MatchBool b (IsDead sys order) (IsDead sys order → ⊥)
sees_order sys hs rs of order before h f e is ps a lists count b all most inside answer alive =
    subst (λ z. MatchBool b (IsDead sys z) (IsDead sys z → ⊥)) (sym e)
    (sees_last sys hs rs of before h f is ps (subst (λ z. ArePlaces hs z (length z) ps) e a) lists count b all most inside answer (subst (IsAliveBefore sys) e alive))

pub last_has_symbol : (hs : List Head) (order before : Precedence) (h : Head) → order ≡ before ++ h ∷ [] → (ps : List ℕ) → HasItsPlaces hs order ps → ((f : ℕ) → slice_get hs f ≡ Some h → ⊥) → ⊥
last_has_symbol hs order before h e ps a none = last_known hs before h ps (subst (λ z. ArePlaces hs z (length z) ps) e a) none

-- some symbol has no place as long as fewer stand than there are
pub some_free : (hs : List Head) (order : Precedence) (ps : List ℕ) → HasItsPlaces hs order ps → length order < length hs → FreeAnswers ps 0 None → ⊥
some_free hs order ps a less none = let full = none_free ps (λ f lt e. none f (omega arith) lt e) in let few = a.few in let many = a.as_many in omega (arith, full, few, many, less)

pub down : (sys : math.System) (hs : List Head) → HasHeads sys hs → (order longer : Precedence) (ps : List ℕ) (f : ℕ) → HasItsPlaces hs order ps → FreeAnswers ps 0 (Some f)
    → IsLonger hs order f longer → GoesDown sys order longer
down sys hs same order longer ps f a free (h, is, e) = (
  ap length e ∙ (let sum = length-append order (h ∷ []) in omega (arith, sum)),
  λ n come alive.
      subst (λ z. HasComeTo sys z n) (sym e)
      (walking.go_down sys order n ps f h come alive (subst (λ z. ArePlaces z order (length order) ps) same a) free (subst (λ z. slice_get z f ≡ Some h) same is)),
)

module _ (sys : math.System) (hs : List Head) (same : HasHeads sys hs) (before order : Precedence) (f : ℕ) (last : IsLonger hs order f before) (ps : List ℕ) (a : HasItsPlaces hs order ps) (n : ℕ)
    (done : HasDoneWith sys before n) where
  here : HasDoneWith sys (order ++ last.0 ∷ []) n
  here = subst (λ z. HasDoneWith sys z n) last.2 done

  symbol : slice_get (heads sys) f ≡ Some last.0
  symbol = subst (λ z. slice_get z f ≡ Some last.0) same last.1

  own_places : HasItsPlaces (heads sys) order ps
  own_places = subst (λ z. ArePlaces z order (length order) ps) same a

  pub across : (longer : Precedence) (g : ℕ) → FreeAnswers ps (f + 1) (Some g) → IsLonger hs order g longer → HasComeTo sys longer n
  across longer g free (x, is, e) =
      subst (λ z. HasComeTo sys z n) (sym e) (walking.go_across sys order last.0 x f g n ps symbol (subst (λ z. slice_get z g ≡ Some x) same is) own_places free here)

  pub up : FreeAnswers ps (f + 1) None → HasDoneWith sys order n
  up none = walking.go_up sys order last.0 f n ps symbol own_places none here

pub ends : (sys : math.System) (order : Precedence) (n : ℕ) → order ≡ [] → HasDoneWith sys order n → GoesOn sys order n false
ends sys order n e done = walking.all_done sys n (subst (λ z. HasDoneWith sys z n) e done)
