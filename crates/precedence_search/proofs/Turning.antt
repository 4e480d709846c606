-- The places of symbols, as one is put last or taken away.
use Rattle.std.proofs.Common.{◌≡◌, ◌⊎◌, inl, inr, ℕ, zero, suc, ◌<◌, ◌≤◌, List, [], ◌∷◌, ◌++◌, map, length, get_or, slice_set, slice_get, Some, refl, sym, ap, ◌∙◌, subst, arith}
use Rattle.std.proofs.Common.{get_or-set_other, get_or-set_same}
use Rattle.std.proofs.lemmas.Bool.{cases_lt, cases_eq}
use Rattle.std.proofs.lemmas.List.{length-set, length-append, map-append}
use Rattle.std.proofs.lemmas.Option.{slice_get_within}
use Rattle.general_lemmas.proofs.Places.{slice_get_longer, slice_get_shorter, slice_get_seam}
use Rattle.rewriting.specs.Prelude.{AreDistinct, Head}
use Rattle.path_orders.specs.Precedences.{Precedence}
use Rattle.lpo.specs.Places.{StandsIn, IsNewIn, placed, ArePlaces}
use Rattle.term_core.specs.HeadView.{head_view}
use Rattle.term_core.specs.declared.systems.Head as code
use Rattle.lpo.proofs.Placing.{map_get, one_number, place_more, placed_within}
use Rattle.precedence_search.specs.Walks.{IsLonger}

placed_less : (ps : List ℕ) (f n : ℕ) → get_or ps f 0 ≡ suc n → suc (placed (slice_set ps f 0)) ≡ placed ps
placed_less [] f n e = absurd (omega (arith, e))
placed_less (zero ∷ ps) zero n e = absurd (omega (arith, e))
placed_less (suc m ∷ ps) zero n e = refl
placed_less (zero ∷ ps) (suc f) n e = placed_less ps f n e
placed_less (suc m ∷ ps) (suc f) n e = ap suc (placed_less ps f n e)

-- where all symbols have places, none has not
pub full_placed : (ps : List ℕ) → placed ps ≡ length ps → (f : ℕ) → f < length ps → get_or ps f 0 ≡ 0 → ⊥
full_placed [] e f lt z = omega (arith, lt)
full_placed (zero ∷ ps) e f lt z = (let within = placed_within ps in omega (arith, e, within))
full_placed (suc n ∷ ps) e zero lt z = omega (arith, z)
full_placed (suc n ∷ ps) e (suc f) lt z = full_placed ps (omega (arith, e)) f (omega (arith, lt)) z

-- and where fewer have, one has not
pub none_free : (ps : List ℕ) → ((f : ℕ) → f < length ps → get_or ps f 0 ≡ 0 → ⊥) → placed ps ≡ length ps
none_free [] h = refl
none_free (zero ∷ ps) h = absurd (h 0 (omega arith) refl)
none_free (suc n ∷ ps) h = ap suc (none_free ps (λ f lt e. h (suc f) (omega (arith, lt)) e))

module _ (hs : List Head) (order : Precedence) (h : Head) where
  long : length (order ++ h ∷ []) ≡ suc (length order)
  long = let sum = length-append order (h ∷ []) in omega (arith, sum)

  longer : (f j : ℕ) → StandsIn hs order f j → StandsIn hs (order ++ h ∷ []) f j
  longer f j s = (s.0, s.1, slice_get_longer order (h ∷ []) j s.0 s.2)

  shorter : (f j : ℕ) → j < length order → StandsIn hs (order ++ h ∷ []) f j → StandsIn hs order f j
  shorter f j lt s = (s.0, s.1, slice_get_shorter order (h ∷ []) j s.0 lt s.2)

  new_longer : (j : ℕ) → j < length order → IsNewIn hs order j → IsNewIn hs (order ++ h ∷ []) j
  new_longer j lt n = record { symbol = n.symbol; stands = longer n.symbol j n.stands; is_new = λ i less s. n.is_new i less (shorter n.symbol i (omega (arith, less, lt)) s) }

  new_shorter : (j : ℕ) → j < length order → IsNewIn hs (order ++ h ∷ []) j → IsNewIn hs order j
  new_shorter j lt n = record { symbol = n.symbol; stands = shorter n.symbol j lt n.stands; is_new = λ i less s. n.is_new i less (longer n.symbol i s) }

  module _ (distinct : AreDistinct hs) (f : ℕ) (is : slice_get hs f ≡ Some h) (ps : List ℕ) where
    pub put_place : ArePlaces hs order (length order) ps → get_or ps f 0 ≡ 0 → ArePlaces hs (order ++ h ∷ []) (length (order ++ h ∷ [])) (slice_set ps f (suc (length order)))
    put_place a free =
        let b : ArePlaces hs (order ++ h ∷ []) (length order) ps = record {
          as_many = a.as_many;
          few = a.few;
          sound = λ g j e. let s = a.sound g j e in (s.0, longer g j s.1);
          complete = λ g j lt s. a.complete g j lt (shorter g j lt s);
          new = λ j lt. new_longer j lt (a.new j lt);
        } in
        subst (λ z. ArePlaces hs (order ++ h ∷ []) z (slice_set ps f (suc (length order)))) (sym long)
        (place_more hs (order ++ h ∷ []) (length order) ps b distinct f h is (slice_get_seam order h []) free)

    pub take_place : ArePlaces hs (order ++ h ∷ []) (length (order ++ h ∷ [])) ps → ArePlaces hs order (length order) (slice_set ps f 0)
    take_place a =
        record {
          as_many = length-set ps f 0 ∙ a.as_many;
          few = (let less = placed_less ps f (length order) here in let many = a.few in let sum = long in omega (arith, less, many, sum));
          sound = sound_less;
          complete = complete_less;
          new = λ j lt. new_shorter j lt (a.new j (let sum = long in omega (arith, lt, sum)));
        }
      where
        here : get_or ps f 0 ≡ suc (length order)
        here = a.complete f (length order) (let sum = long in omega (arith, sum)) (h, is, slice_get_seam order h [])

        inside : f < length ps
        inside = let many = a.as_many in let within = slice_get_within hs f h is in omega (arith, many, within)

        sound_less : (g j : ℕ) → get_or (slice_set ps f 0) g 0 ≡ suc j → (j < length order) × StandsIn hs order g j
        sound_less g j e = go (cases_eq g f)
          where
            other : (g ≡ f → ⊥) → (j < length order) ⊎ (length order ≤ j) → (j < length (order ++ h ∷ [])) × StandsIn hs (order ++ h ∷ []) g j → (j < length order) × StandsIn hs order g j
            other n (inl lt) s = (lt, shorter g j lt s.1)
            other n (inr le) s =
                let less = s.0 in
                let sum = long in
                let last : j ≡ length order = omega (arith, le, less, sum) in
                let at : slice_get (order ++ h ∷ []) j ≡ Some h = ap (slice_get (order ++ h ∷ [])) last ∙ slice_get_seam order h [] in
                absurd (n (one_number hs distinct g f h (s.1.1 ∙ (sym s.1.2 ∙ at)) is))

            go : (g ≡ f) ⊎ (g ≡ f → ⊥) → (j < length order) × StandsIn hs order g j
            go (inl same) = absurd (let none : get_or (slice_set ps f 0) g 0 ≡ 0 = ap (λ z. get_or (slice_set ps f 0) z 0) same ∙ get_or-set_same ps f 0 0 inside in omega (arith, none, e))
            go (inr n) = other n (cases_lt j (length order)) (a.sound g j (sym (get_or-set_other ps f g 0 0 n) ∙ e))

        complete_less : (g j : ℕ) → j < length order → StandsIn hs order g j → get_or (slice_set ps f 0) g 0 ≡ suc j
        complete_less g j lt s =
            let there = a.complete g j (let sum = long in omega (arith, lt, sum)) (longer g j s) in
            get_or-set_other ps f g 0 0 (λ same. let one : get_or ps f 0 ≡ suc j = sym (ap (λ z. get_or ps z 0) same) ∙ there in let two = here in omega (arith, one, two, lt)) ∙ there

    pub place_inside : ArePlaces hs (order ++ h ∷ []) (length (order ++ h ∷ [])) ps → f < length ps
    place_inside a = let many = a.as_many in let within = slice_get_within hs f h is in omega (arith, many, within)

  -- the last has a symbol
  pub last_known : (ps : List ℕ) → ArePlaces hs (order ++ h ∷ []) (length (order ++ h ∷ [])) ps → ((f : ℕ) → slice_get hs f ≡ Some h → ⊥) → ⊥
  last_known ps a none =
      let n = a.new (length order) (let sum = long in omega (arith, sum)) in
      let s = n.stands in
      none n.symbol (s.1 ∙ (sym s.2 ∙ slice_get_seam order h []))

-- the same for the code's lists
pub last_put : (heads items new : List code.Head) (f : ℕ) (d : code.Head) → f < length heads → new ≡ items ++ get_or heads f d ∷ []
    → IsLonger (map head_view heads) (map head_view items) f (map head_view new)
last_put heads items new f d lt e = (head_view (get_or heads f d), map_get head_view heads f d lt, ap (map head_view) e ∙ map-append head_view items (get_or heads f d ∷ []))

pub put_in_place : (hs : List Head) (order longer : Precedence) (f n : ℕ) (ps : List ℕ) → AreDistinct hs → IsLonger hs order f longer → ArePlaces hs order (length order) ps → get_or ps f 0 ≡ 0
    → n ≡ length longer
    → ArePlaces hs longer (length longer) (slice_set ps f n)
put_in_place hs order longer f n ps distinct (h, is, e) a free many =
    let last : n ≡ suc (length order) = many ∙ (ap length e ∙ long hs order h) in
    subst (λ z. ArePlaces hs z (length z) (slice_set ps f n)) (sym e)
    (subst (λ z. ArePlaces hs (order ++ h ∷ []) (length (order ++ h ∷ [])) (slice_set ps f z)) (sym last) (put_place hs order h distinct f is ps a free))

module _ (heads items new : List code.Head) (x : code.Head) (e : items ≡ new ++ x ∷ []) (ps : List ℕ) (a : ArePlaces (map head_view heads) (map head_view items) (length (map head_view items)) ps)
  where
    shown : map head_view items ≡ map head_view new ++ head_view x ∷ []
    shown = ap (map head_view) e ∙ map-append head_view new (x ∷ [])

    before : ArePlaces (map head_view heads) (map head_view new ++ head_view x ∷ []) (length (map head_view new ++ head_view x ∷ [])) ps
    before = subst (λ z. ArePlaces (map head_view heads) z (length z) ps) shown a

    pub taken_inside : (f : ℕ) → AreDistinct (map head_view heads) → slice_get (map head_view heads) f ≡ Some (head_view x) → f < length ps
    taken_inside f distinct is = place_inside (map head_view heads) (map head_view new) (head_view x) distinct f is ps before

    pub taken_in_place : (f : ℕ) → AreDistinct (map head_view heads) → slice_get (map head_view heads) f ≡ Some (head_view x)
        → ArePlaces (map head_view heads) (map head_view new) (length (map head_view new)) (slice_set ps f 0)
    taken_in_place f distinct is = take_place (map head_view heads) (map head_view new) (head_view x) distinct f is ps before

    pub taken_known : ((f : ℕ) → slice_get (map head_view heads) f ≡ Some (head_view x) → ⊥) → ⊥
    taken_known none = last_known (map head_view heads) (map head_view new) (head_view x) ps before none
