-- Where transitions lead by the numbers that relations have at their arguments.
use Rattle.std.proofs.Common.{◌≡◌, ◌↔◌, ◌⊎◌, inl, inr, ⊎_elim, ℕ, ◌+◌, ◌<◌, ◌≤◌, nat_eq, eqb-true, true, List, [], ◌∷◌, ◌++◌, filter, Option, None, Some, slice_get, refl, ap, sym, subst, arith}
use Rattle.std.specs.Option.{option_eq}
use Rattle.std.proofs.lemmas.Bool.{false≢true, cases_lt}
use Rattle.std.proofs.lemmas.Option.{same_Some, none-some}
use Rattle.certificates.specs.Evidence.{Transition}
use Rattle.rewriting.specs.Lists.{IsAmong}
use Rattle.number_sets.specs.Relation.{Relates}
use Rattle.number_sets.specs.declared.rows.NumberRelation.{NumberRelation}
use Rattle.automaton_runs.specs.Counted.{Indexed, Finds}
use Rattle.automaton_runs.specs.Counting.{Key, chosen, symbol_key, first_key}
use Rattle.automaton_runs.specs.Reached.{IsOneOf, AreRelated, Leads, HaveLeads, HaveLeadsByFirst, IsReachedFrom}
use Rattle.automaton_runs.proofs.Looked.{looked_from, looked_to}
use Rattle.rewriting.proofs.Lists.{among_either, among_left, among_right}

pub option_is : (o : Option ℕ) (f : ℕ) → option_eq nat_eq o (Some f) ≡ true → o ≡ Some f
option_is None f e = absurd (false≢true e)
option_is (Some g) f e = ap Some (eqb-true g f e)

-- what holds of one of the elements of a list, and of one more
pub one_more : {X A B C : Type 0} (P : X → Type 0) (xs : List X) (x : X) (ys : List X) → ys ≡ xs ++ x ∷ [] → A ↔ (B ⊎ ((y : X) × IsAmong y xs × P y)) → C ↔ (A ⊎ P x)
    → C ↔ (B ⊎ ((y : X) × IsAmong y ys × P y))
one_more {X = X} {A = A} {B = B} {C = C} P xs x ys e front more = (into, back)
  where
    there : (y : X) × IsAmong y xs × P y → (y : X) × IsAmong y ys × P y
    there (y, i, h) = (y, subst (λ (l : List X). IsAmong y l) (sym e) (among_left y xs (x ∷ []) i), h)

    here : P x → (y : X) × IsAmong y ys × P y
    here h = (x, subst (λ (l : List X). IsAmong x l) (sym e) (among_right x xs (x ∷ []) (inl refl)), h)

    into : C → B ⊎ ((y : X) × IsAmong y ys × P y)
    into c = ⊎_elim (λ a. ⊎_elim (λ b. inl b) (λ o. inr (there o)) (front.0 a)) (λ h. inr (here h)) (more.0 c)

    one : (y : X) → P y → IsAmong y xs ⊎ IsAmong y (x ∷ []) → C
    one y h (inl i) = more.1 (inl (front.1 (inr (y, i, h))))
    one y h (inr (inl s)) = more.1 (inr (subst P s h))
    one y h (inr (inr f)) = absurd f

    back : B ⊎ ((y : X) × IsAmong y ys × P y) → C
    back (inl b) = more.1 (inl (front.1 (inl b)))
    back (inr (y, i, h)) = one y h (among_either y xs (x ∷ []) (subst (λ (l : List X). IsAmong y l) e i))

module _ (a : Indexed) (f : ℕ) (all : List ℕ) (rs : List NumberRelation) (key : Key) (s q k : ℕ) where
  -- transitions that are looked up lead where the symbol does
  from_led : HaveLeads f all rs (filter (chosen a.symbols key a.automaton.states s) a.automaton.transitions) q k → IsOneOf rs all k × IsReachedFrom a f rs q k
  from_led (t, i, e) =
      let has = (looked_from a key s t i).0 in
      (e.number, (t.arguments, subst (λ (o : Option ℕ). Finds a o t.arguments q) e.symbol (subst (λ (r : ℕ). Finds a t.symbol t.arguments r) (sym e.target) has), e.arguments))

  to_led : (qs : List ℕ) → IsAmong (record { symbol = Some f; arguments = qs; target = q }) (filter (chosen a.symbols key a.automaton.states s) a.automaton.transitions)
      → IsOneOf rs all k → AreRelated rs qs k
      → HaveLeads f all rs (filter (chosen a.symbols key a.automaton.states s) a.automaton.transitions) q k
  to_led qs i n e = (record { symbol = Some f; arguments = qs; target = q }, i, record { symbol = refl; number = n; arguments = e; target = refl })

-- without arguments the symbol leads by its transitions
pub led_by_symbol : (a : Indexed) (f q k : ℕ) (all : List ℕ) (rs : List NumberRelation)
    → HaveLeads f all rs (filter (chosen a.symbols symbol_key a.automaton.states f) a.automaton.transitions) q k ↔ (IsOneOf rs all k × IsReachedFrom a f rs q k)
led_by_symbol a f q k all rs = (
  λ h. from_led a f all rs symbol_key f q k h,
  λ (n, (qs, has, e)). to_led a f all rs symbol_key f q k qs (looked_to a symbol_key f (Some f) qs q has refl) n e,
)

-- with a first argument it leads by the transitions from a state of the first relation
pub led_by_first : (a : Indexed) (f q k : ℕ) (all : List ℕ) (r : NumberRelation) (rs : List NumberRelation)
    → HaveLeadsByFirst a r f all (r ∷ rs) q k ↔ (IsOneOf (r ∷ rs) all k × IsReachedFrom a f (r ∷ rs) q k)
led_by_first a f q k all r rs = (λ (s, (p, h)). from_led a f all (r ∷ rs) first_key s q k h, back)
  where
    back : IsOneOf (r ∷ rs) all k × IsReachedFrom a f (r ∷ rs) q k → HaveLeadsByFirst a r f all (r ∷ rs) q k
    back (n, ([], has, e)) = absurd e
    back (n, (s ∷ qs, has, e)) = (s, ((k, e.0), to_led a f all (r ∷ rs) first_key s q k (s ∷ qs) (looked_to a first_key s (Some f) (s ∷ qs) q has refl) n e))

-- one transition
pub lead_put : (f : ℕ) (all : List ℕ) (rs : List NumberRelation) (t : Transition) (old new : NumberRelation) → t.symbol ≡ Some f
    → ((q k : ℕ) → Relates new q k ↔ (Relates old q k ⊎ ((q ≡ t.target) × (IsOneOf rs all k × AreRelated rs t.arguments k)))) → (q k : ℕ) → Relates new q k ↔ (Relates old q k ⊎ Leads f all rs t q k)
lead_put f all rs t old new symbol put q k = (
  λ h. ⊎_elim inl (λ (e, i). inr (record { symbol = symbol; number = i.0; arguments = i.1; target = e })) ((put q k).0 h),
  λ h. (put q k).1 (⊎_elim inl (λ (l : Leads f all rs t q k). inr (l.target, (l.number, l.arguments))) h),
)

-- the states below a bound, one more at a time
module _ {A B : Type 0} (P : ℕ → Type 0) (n : ℕ) (front : A ↔ (B ⊎ ((s : ℕ) × (s < n) × P s))) where
  pub state_more : {C : Type 0} → C ↔ (A ⊎ P n) → C ↔ (B ⊎ ((s : ℕ) × (s < n + 1) × P s))
  state_more more = (
    λ c. ⊎_elim (λ a. ⊎_elim inl (λ (s, l, p). inr (s, omega arith, p)) (front.0 a)) (λ p. inr (n, omega arith, p)) (more.0 c),
    λ h. ⊎_elim (λ b. more.1 (inl (front.1 (inl b)))) (λ (s, l, p). ⊎_elim (λ (k : s < n). more.1 (inl (front.1 (inr (s, k, p))))) (λ (k : n ≤ s). let same : s ≡ n = omega arith in
        more.1 (inr (subst P same p))) (cases_lt s n)) h,
  )

  pub state_passed : (P n → ⊥) → A ↔ (B ⊎ ((s : ℕ) × (s < n + 1) × P s))
  state_passed never = (
    λ a. ⊎_elim inl (λ (s, l, p). inr (s, omega arith, p)) (front.0 a),
    λ h. front.1 (⊎_elim inl (λ (s, l, p). ⊎_elim (λ (k : s < n). inr (s, k, p)) (λ (k : n ≤ s). let same : s ≡ n = omega arith in absurd (never (subst P same p))) (cases_lt s n)) h),
  )

  pub state_all : ((s : ℕ) → P s → s < n) → A ↔ (B ⊎ ((s : ℕ) × P s))
  state_all below = (λ a. ⊎_elim inl (λ (s, l, p). inr (s, p)) (front.0 a), λ h. front.1 (⊎_elim inl (λ (s, p). inr (s, below s p, p)) h))

-- what is there holds with the transitions
pub led_here : {A C F : Type 0} (L : Type 0) → F → C ↔ (A ⊎ L) → C ↔ (A ⊎ (F × L))
led_here L f h = (λ c. ⊎_elim inl (λ l. inr (f, l)) (h.0 c), λ k. h.1 (⊎_elim inl (λ (g, l). inr l) k))

-- all that is related to numbers in the end
pub reached_by_symbol : {A C : Type 0} (a : Indexed) (f q k : ℕ) (all : List ℕ) (rs : List NumberRelation) → (A → ⊥) → (ts : List Transition)
    → ts ≡ filter (chosen a.symbols symbol_key a.automaton.states f) a.automaton.transitions
    → C ↔ (A ⊎ HaveLeads f all rs ts q k) → C ↔ (IsOneOf rs all k × IsReachedFrom a f rs q k)
reached_by_symbol {A = A} {C = C} a f q k all rs none ts is h =
    let l = led_by_symbol a f q k all rs in
    let here : C ↔ (A ⊎ HaveLeads f all rs (filter (chosen a.symbols symbol_key a.automaton.states f) a.automaton.transitions) q k) = subst
    (λ (us : List Transition). C ↔ (A ⊎ HaveLeads f all rs us q k)) is h in
    (λ c. l.0 (⊎_elim (λ x. absurd (none x)) (λ y. y) (here.0 c)), λ r. here.1 (inr (l.1 r)))

pub reached_by_first : {A C : Type 0} (a : Indexed) (f q k : ℕ) (all : List ℕ) (first : NumberRelation) (rs : List NumberRelation) → (A → ⊥) → Some first ≡ slice_get rs 0
    → C ↔ (A ⊎ HaveLeadsByFirst a first f all rs q k) → C ↔ (IsOneOf rs all k × IsReachedFrom a f rs q k)
reached_by_first a f q k all first [] none some h = absurd (none-some first (sym some))
reached_by_first {A = A} {C = C} a f q k all first (r ∷ rs) none some h =
    let same : first ≡ r = same_Some first r some in
    let l = led_by_first a f q k all r rs in
    let here : C ↔ (A ⊎ HaveLeadsByFirst a r f all (r ∷ rs) q k) = subst (λ (s : NumberRelation). C ↔ (A ⊎ HaveLeadsByFirst a s f all (r ∷ rs) q k)) same h in
    (λ c. l.0 (⊎_elim (λ x. absurd (none x)) (λ y. y) (here.0 c)), λ s. here.1 (inr (l.1 s)))
