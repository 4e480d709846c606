-- How a walk goes on from entries to entries.
use Rattle.std.proofs.Common.{ℕ, suc, ◌≡◌, ◌<◌, ◌⊎◌, inl, inr, ◌+◌, List, [], ◌∷◌, ◌++◌, map, length, get_or, slice_get, option_map, Some, refl, sym, ap, ◌∙◌, subst, arith, append_assoc, append-nil}
use Rattle.std.proofs.lemmas.List.{length_push, length-map, map_push}
use Rattle.std.proofs.lemmas.Option.{slice_get_within, slice_get-map, slice_get-get_or}
use Rattle.rewriting.specs.Prelude.{System, Head, heads, unraveled}
use Rattle.certificates.specs.Certificates.{LinearEntry}
use Rattle.interpretations.specs.Linear.{Interpretation, IsEntry}
use Rattle.measure_grid.specs.Dead.{IsDead}
use Rattle.general_lemmas.proofs.Places.{slice_get-append_left}
use Rattle.grid_search.specs.Prefix.{IsPrefix}
use Rattle.grid_search.proofs.Extending.{next_prefix}
use Rattle.grid_search.proofs.Standing.{within_arities}
use Rattle.term_core.specs.HeadView.{head_view}
use Rattle.term_core.specs.declared.systems.Head as heads_of
use Rattle.cert_model.specs.CertificateView.{linear_entry_view}
use Rattle.cert_model.specs.declared.model.LinearEntry as program
use Rattle.wide_search.specs.Tried.{AreTried}
use Rattle.wide_search.specs.Prefixes.{AreAllTried, IsNext, IsAlive}
use Rattle.wide_search.proofs.GoodNumbers.{pushed_at, tried_good}

tried_pushed : (es : Interpretation) (e : LinearEntry) → AreAllTried es → AreTried e.head e.coefficients → AreAllTried (es ++ e ∷ [])
tried_pushed [] e h last = (last, tt)
tried_pushed (d ∷ es) e (h, hs) last = (h, tried_pushed es e hs last)

tried_split : (es : Interpretation) (e : LinearEntry) → AreAllTried (es ++ e ∷ []) → AreAllTried es × AreTried e.head e.coefficients
tried_split [] e (h, hs) = (tt, h)
tried_split (d ∷ es) e (h, hs) = let rest = tried_split es e hs in ((h, rest.0), rest.1)

-- a beginning of a list with one more at its end is one of the list
begins : {X : Type 0} (xs : List X) (y : X) (before : List X) (last : X) (more : List X) → xs ++ y ∷ [] ≡ before ++ last ∷ more → (rest : List X) × (xs ≡ before ++ rest)
begins xs y [] last more e = (xs, refl)
begins {X} [] y (x ∷ before) last more e = absurd (no before (let rest : [] ≡ before ++ last ∷ more = cc in rest))
  where
    no : (bs : List X) → [] ≡ bs ++ last ∷ more → ⊥
    no [] h = cc
    no (b ∷ bs) h = cc
begins (z ∷ xs) y (x ∷ before) last more e =
    let same : z ≡ x = cc in
    let rest : xs ++ y ∷ [] ≡ before ++ last ∷ more = cc in
    let further = begins xs y before last more rest in
    (further.0, cc)

-- a list with an element behind it has a first one behind it
has_first : {X : Type 0} (xs : List X) (y : X) → (x : X) × (rest : List X) × (xs ++ y ∷ [] ≡ x ∷ rest)
has_first [] y = (y, [], refl)
has_first (x ∷ xs) y = (x, xs ++ y ∷ [], refl)

module _ (sys : System) where
  -- what is not dead is alive
  pub found_alive : (es : Interpretation) → IsNext sys es → (IsDead sys es → ⊥) → IsAlive sys es
  found_alive es h lives = record { prefix = h.prefix; tried = h.tried; alive = by }
    where
      by : (before more : Interpretation) → es ≡ before ++ more → IsDead sys before → ⊥
      by before [] e dead = lives (subst (IsDead sys) (sym (e ∙ append-nil before)) dead)
      by before (last ∷ more) e dead = h.alive before last more e dead

  shorter : (es : Interpretation) (e : LinearEntry) → IsPrefix sys (es ++ e ∷ []) → IsPrefix sys es
  shorter es e p =
      let long = length_push es e in
      let few = p.few in
      record {
        few = omega (arith, long, few);
        entries = λ k less. (let h = p.entries k (omega (arith, long, less)) in record {
          entry = h.entry;
          is_entry = sym (slice_get-append_left es (e ∷ []) k less) ∙ h.is_entry;
          head = h.head;
          numbers = h.numbers;
        });
        numbers = λ k d at. p.numbers k d (slice_get-append_left es (e ∷ []) k (slice_get_within es k d at) ∙ at);
      }

  -- without the last entry
  pub goes_up : (es : Interpretation) (e : LinearEntry) → IsNext sys (es ++ e ∷ []) → IsAlive sys es
  goes_up es e h = record { prefix = shorter es e h.prefix; tried = (tried_split es e h.tried).0; alive = by }
    where
      by : (before more : Interpretation) → es ≡ before ++ more → IsDead sys before → ⊥
      by before more is dead =
          let first = has_first more e in
          h.alive before first.0 first.1 (ap (λ (z : Interpretation). z ++ e ∷ []) is ∙ append_assoc before more (e ∷ []) ∙ ap (λ (z : Interpretation). before ++ z) first.2) dead

  pub alive_next : (es : Interpretation) → IsAlive sys es → IsNext sys es
  alive_next es h = record { prefix = h.prefix; tried = h.tried; alive = λ before last more e dead. h.alive before (last ∷ more) e dead }

  -- with one more
  pub goes_down : (es : Interpretation) (e : LinearEntry) → IsAlive sys es → slice_get (heads sys) (length es) ≡ Some e.head
      → option_map suc (slice_get (unraveled sys).arities (length es)) ≡ Some (length e.coefficients) → AreTried e.head e.coefficients → IsNext sys (es ++ e ∷ [])
  goes_down es e h head numbers tried = record {
    prefix = next_prefix sys es e h.prefix head numbers (tried_good sys (length es) e.head e.coefficients head tried);
    tried = tried_pushed es e h.tried tried;
    alive = λ before last more is dead. (let rest = begins es e before last more is in h.alive before rest.0 rest.1 dead);
  }

  record LastEntry (es : Interpretation) (e : LinearEntry) : Type 0 where
    head : slice_get (heads sys) (length es) ≡ Some e.head
    numbers : option_map suc (slice_get (unraveled sys).arities (length es)) ≡ Some (length e.coefficients)

  last_entry : (es : Interpretation) (e : LinearEntry) → IsPrefix sys (es ++ e ∷ []) → LastEntry es e
  last_entry es e p =
      let long = length_push es e in
      let h = p.entries (length es) (omega (arith, long)) in
      by h (pushed_at es e h.entry (length es) h.is_entry)
    where
      by : (h : IsEntry sys (es ++ e ∷ []) (length es)) → (slice_get es (length es) ≡ Some h.entry) ⊎ ((length es ≡ length es) × (h.entry ≡ e)) → LastEntry es e
      by h (inl at) = let no = slice_get_within es (length es) h.entry at in absurd (omega (arith, no))
      by h (inr (same, is)) = record {
        head = h.head ∙ ap (λ (z : LinearEntry). Some z.head) is;
        numbers = h.numbers ∙ ap (λ (z : LinearEntry). Some (length z.coefficients)) is;
      }

  -- with another entry of the same symbol in place of the last one
  pub goes_across : (es : Interpretation) (e next : LinearEntry) → IsNext sys (es ++ e ∷ []) → next.head ≡ e.head → length next.coefficients ≡ length e.coefficients
      → (AreTried e.head e.coefficients → AreTried e.head next.coefficients) → IsNext sys (es ++ next ∷ [])
  goes_across es e next h same count tried =
      let at = last_entry es e h.prefix in
      goes_down es next (goes_up es e h) (at.head ∙ ap Some (sym same)) (at.numbers ∙ ap Some (sym count))
      (subst (λ z. AreTried z next.coefficients) (sym same) (tried (tried_split es e h.tried).1))

-- the same of the program's entries
abbrev views : List program.LinearEntry → Interpretation
views es = map linear_entry_view es

with_last : (es before : List program.LinearEntry) (e : program.LinearEntry) → es ≡ before ++ e ∷ [] → views es ≡ views before ++ linear_entry_view e ∷ []
with_last es before e is = ap views is ∙ map_push linear_entry_view before e

module _ (now before : List program.LinearEntry) (e : program.LinearEntry) (is : now ≡ before ++ e ∷ []) (sys : System) (h : IsNext sys (views now)) where
  here : IsNext sys (views before ++ linear_entry_view e ∷ [])
  here = subst (λ (z : Interpretation). IsNext sys z) (with_last now before e is) h

  pub up : IsNext sys (views before)
  up = alive_next sys (views before) (goes_up sys (views before) (linear_entry_view e) here)

  pub across : (after : List program.LinearEntry) (next : program.LinearEntry) → after ≡ before ++ next ∷ [] → next.head ≡ e.head → length next.coeffs.items ≡ length e.coeffs.items
      → (AreTried (head_view e.head) e.coeffs.items → AreTried (head_view e.head) next.coeffs.items) → IsNext sys (views after)
  across after next last head count tried =
      subst (λ (z : Interpretation). IsNext sys z) (sym (with_last after before next last))
      (goes_across sys (views before) (linear_entry_view e) (linear_entry_view next) here (ap head_view head) count tried)

-- one symbol further
module _ (sys : System) (es : List program.LinearEntry) (hs : List heads_of.Head) (are : map head_view hs ≡ heads sys) where
  heads_many : length hs ≡ length (heads sys)
  heads_many = sym (length-map hs head_view) ∙ ap (λ (z : List Head). length z) are

  pub some_left : IsNext sys (views es) → (length es ≡ length hs → ⊥) → length (views es) < length (heads sys)
  some_left h not_all = let few = h.prefix.few in let a = length-map es linear_entry_view in let b = heads_many in omega (arith, few, a, b, not_all)

  pub one_further : (ns : List ℕ) (k : ℕ) (d : heads_of.Head) (m : ℕ) → ns ≡ (unraveled sys).arities → k ≡ length es → length es < length (heads sys) → (e : program.LinearEntry)
      → e.head ≡ get_or hs k d → length e.coeffs.items ≡ get_or ns k m + 1 → AreTried (head_view (get_or hs k d)) e.coeffs.items → IsAlive sys (views es)
      → (after : List program.LinearEntry) → after ≡ es ++ e ∷ [] → IsNext sys (views after)
  one_further ns k d m ns_are k_is less e same count tried alive after last =
      let many = heads_many in
      let counted = length-map es linear_entry_view in
      let place : k ≡ length (views es) = omega (arith, counted, k_is) in
      let is_head : slice_get (heads sys) (length (views es)) ≡ Some (head_view (get_or hs k d)) =
      subst (λ (z : ℕ). slice_get (heads sys) z ≡ Some (head_view (get_or hs k d))) place
      (ap (λ (z : List Head). slice_get z k) (sym are) ∙ (slice_get-map head_view hs k ∙ ap (option_map head_view) (slice_get-get_or hs k d (omega (arith, many, k_is, less))))) in
      let is_arity : slice_get (unraveled sys).arities (length (views es)) ≡ Some (get_or ns k m) =
      subst (λ (z : ℕ). slice_get (unraveled sys).arities z ≡ Some (get_or ns k m)) place
      (ap (λ (z : List ℕ). slice_get z k) (sym ns_are) ∙ slice_get-get_or ns k m (within_arities sys es hs are ns k ns_are k_is less)) in
      subst (λ (z : Interpretation). IsNext sys z) (sym (with_last after es e last))
      (goes_down sys (views es) (linear_entry_view e) alive (is_head ∙ ap (λ z. Some (head_view z)) (sym same)) (ap (option_map suc) is_arity ∙ ap Some (omega (arith, count)))
      (subst (λ z. AreTried (head_view z) e.coeffs.items) (sym same) tried))
