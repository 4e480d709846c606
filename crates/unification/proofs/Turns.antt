-- Variables that are bound in turn, to terms that stay as they stand.
use Rattle.std.proofs.Common.{ℕ, ◌≡◌, ◌≢◌, suc, ◌+◌, Bool, true, false, nat_eq, if◌then◌else◌, refl, sym, ap, ap₂, ◌∙◌, List, [], ◌∷◌, ◌++◌, map, length, arith, eqb-true, eq-eqb}
use Rattle.std.proofs.lemmas.Bool.{false≢true}
use Rattle.rewriting.specs.Prelude.{Term, var, Substitution, apply, occurs, replacing}
use Rattle.unifier_run.specs.Run.{Binding, value, under, extended}
use Rattle.unifier_run.proofs.Values.{value-extended, apply-extended}
use Rattle.unifier_run.proofs.General.{Absorbs, IsSettled, absorbs_replacing, settled_fixed, settled_empty, untouched, absorbed, replacing-same}
use Rattle.unification.specs.Solving.{IsHead, bound_in_turn, MayBind, MayBindInTurn}

-- one more variable
abbrev pub added : List Binding → Binding → List Binding
added b e = extended b e.variable (apply (value b) e.term)

replacing-other : (x : ℕ) (v : Term) (y : ℕ) → y ≢ x → replacing x v y ≡ var y
replacing-other x v y n = go (nat_eq y x) refl
  where
    go : (b : Bool) → nat_eq y x ≡ b → (if b then v else var y) ≡ var y
    go true e = absurd (n (eqb-true y x e))
    go false e = refl

module _ (b : List Binding) (e : Binding) (may : MayBind b e) where
  abbrev pub here : Term
  here = apply (value b) e.term

  new_value : value (added b e) e.variable ≡ here
  new_value = value-extended b e.variable here e.variable ∙ (ap (apply (replacing e.variable here)) may.free ∙ replacing-same e.variable here)

  -- a substitution that absorbs the new bindings gives the variable what it gives the term
  pub new_absorbed : (s : Substitution) → Absorbs s (value (added b e)) → s e.variable ≡ apply s here
  new_absorbed s a = a e.variable ∙ ap (apply s) new_value

  pub old_absorbed : (s : Substitution) → Absorbs s (value (added b e)) → Absorbs s (value b)
  old_absorbed s a = λ y. a y ∙ (ap (apply s) (value-extended b e.variable here y) ∙ absorbs_replacing s e.variable here (new_absorbed s a) (value b y))

  pub stands_for : (s : Substitution) → Absorbs s (value (added b e)) → s e.variable ≡ apply s e.term
  stands_for s a = new_absorbed s a ∙ absorbed s (value b) (old_absorbed s a) e.term

  module _ (settled : IsSettled b) where
    new_fixed : value (added b e) e.variable ≡ apply (value (added b e)) here
    new_fixed = new_value ∙ sym (apply-extended b e.variable here here ∙ (ap (apply (replacing e.variable here)) (settled_fixed b settled e.term) ∙ untouched e.variable here here may.apart))

    pub added_settled : IsSettled (added b e)
    added_settled =
        λ y. value-extended b e.variable here y
        ∙ (sym (apply-extended b e.variable here (value b y) ∙ ap (apply (replacing e.variable here)) (sym (settled y)))
        ∙ sym (ap (apply (value (added b e))) (value-extended b e.variable here y) ∙ absorbs_replacing (value (added b e)) e.variable here new_fixed (value b y)))

pub in_turn_absorbs : (b es : List Binding) → IsSettled b → MayBindInTurn b es → Absorbs (value (bound_in_turn b es)) (value b)
in_turn_absorbs b [] settled may = settled
in_turn_absorbs b (e ∷ es) settled (m, may) = old_absorbed b e m (value (bound_in_turn (added b e) es)) (in_turn_absorbs (added b e) es (added_settled b e m settled) may)

-- bound terms that the bindings leave
abbrev pub AllFixed : Substitution → List Binding → Type 0
AllFixed s [] = Unit {0}
AllFixed s (e ∷ b) = (apply s e.term ≡ e.term) × AllFixed s b

added_fixed : (b : List Binding) (e : Binding) → MayBind b e → IsSettled b → AllFixed (value b) b → AllFixed (value (added b e)) (added b e)
added_fixed b e may settled fixed = all_under b fixed
  where
    here_fixed : value (added b e) e.variable ≡ apply (value (added b e)) (apply (value b) e.term)
    here_fixed = new_fixed b e may settled

    all_under : (c : List Binding) → AllFixed (value b) c
        → AllFixed (value (added b e)) (map (under e.variable (apply (value b) e.term)) c ++ (record { variable = e.variable; term = apply (value b) e.term }) ∷ [])
    all_under [] h = (sym here_fixed ∙ new_value b e may, tt)
    all_under (d ∷ c) (h, k) = (
      absorbs_replacing (value (added b e)) e.variable (apply (value b) e.term) here_fixed d.term
          ∙ (apply-extended b e.variable (apply (value b) e.term) d.term ∙ ap (apply (replacing e.variable (apply (value b) e.term))) h),
      all_under c k,
    )

-- a bound term under a substitution
abbrev pub closed : Substitution → Binding → Binding
closed s e = record { variable = e.variable; term = apply s e.term }

closed_added : (s : Substitution) (b es : List Binding) (e : Binding) (v : Term) → s e.variable ≡ apply s v → s e.variable ≡ apply s e.term
    → map (closed s) (map (under e.variable v) b ++ (record { variable = e.variable; term = v }) ∷ []) ++ es ≡ map (closed s) b ++ closed s e ∷ es
closed_added s [] es e v h k = ap (λ z. (record { variable = e.variable; term = z }) ∷ es) (sym h ∙ k)
closed_added s (d ∷ b) es e v h k = ap₂ (λ z w. (record { variable = d.variable; term = z }) ∷ w) (absorbs_replacing s e.variable v h d.term) (closed_added s b es e v h k)

closed_fixed : (s : Substitution) (b : List Binding) → AllFixed s b → map (closed s) b ++ [] ≡ b
closed_fixed s [] h = refl
closed_fixed s (e ∷ b) (h, k) = ap₂ (λ z w. (record { variable = e.variable; term = z }) ∷ w) h (closed_fixed s b k)

-- in the end each variable is bound to the instance of its term
in_turn_closed : (b es : List Binding) → IsSettled b → AllFixed (value b) b → MayBindInTurn b es
    → bound_in_turn b es ≡ map (closed (value (bound_in_turn b es))) b ++ map (closed (value (bound_in_turn b es))) es
in_turn_closed b [] settled fixed may = sym (closed_fixed (value b) b fixed)
in_turn_closed b (e ∷ es) settled fixed (m, may) =
    let after = added_settled b e m settled in
    let s : Substitution = value (bound_in_turn (added b e) es) in
    let absorbs = in_turn_absorbs (added b e) es after may in
    in_turn_closed (added b e) es after (added_fixed b e m settled fixed) may
    ∙ closed_added s b (map (closed s) es) e (apply (value b) e.term) (new_absorbed b e m s absorbs) (stands_for b e m s absorbs)

pub all_closed : (es : List Binding) → MayBindInTurn [] es → bound_in_turn [] es ≡ map (closed (value (bound_in_turn [] es))) es
all_closed es may = in_turn_closed [] es settled_empty tt may

-- a term that is the bound variable, and the term that this is bound to
pub head_of_bound : (b : List Binding) (e : Binding) → MayBind b e → IsHead (added b e) e.term
head_of_bound b e may z is =
    value-extended b e.variable (apply (value b) e.term) z ∙ (ap (apply (replacing e.variable (apply (value b) e.term))) (may.head z is) ∙ replacing-other e.variable _ z (apart z is))
  where
    apart : (z : ℕ) → e.term ≡ var z → z ≢ e.variable
    apart z is same = false≢true (sym may.apart ∙ (ap (λ t. occurs e.variable (apply (value b) t)) is ∙ (ap (occurs e.variable) (may.head z is) ∙ eq-eqb e.variable z (sym same))))

-- a term that is another one
pub head_of_other : (b : List Binding) (e : Binding) (t : Term) → IsHead b t → (t ≡ var e.variable → ⊥) → IsHead (added b e) t
head_of_other b e t h n z is =
    value-extended b e.variable (apply (value b) e.term) z ∙ (ap (apply (replacing e.variable (apply (value b) e.term))) (h z is) ∙ replacing-other e.variable _ z (λ same. n (is ∙ ap var same)))

pub length_extended : (b : List Binding) (x : ℕ) (v : Term) → length (extended b x v) ≡ suc (length b)
length_extended [] x v = refl
length_extended (e ∷ b) x v = ap suc (length_extended b x v)

pub length_in_turn : (b es : List Binding) → length (bound_in_turn b es) ≡ length b + length es
length_in_turn b [] = omega arith
length_in_turn b (e ∷ es) = let h = length_in_turn (added b e) es in let k = length_extended b e.variable (apply (value b) e.term) in omega (arith, h, k)

pub in_turn-append : (b es : List Binding) (e : Binding) → bound_in_turn b (es ++ e ∷ []) ≡ added (bound_in_turn b es) e
in_turn-append b [] e = refl
in_turn-append b (d ∷ es) e = in_turn-append (added b d) es e

pub may_bind-append : (b es : List Binding) (e : Binding) → MayBindInTurn b es → MayBind (bound_in_turn b es) e → MayBindInTurn b (es ++ e ∷ [])
may_bind-append b [] e h k = (k, tt)
may_bind-append b (d ∷ es) e (h, g) k = (h, may_bind-append (added b d) es e g k)
