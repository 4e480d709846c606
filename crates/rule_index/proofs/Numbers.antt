-- Rules by their numbers, from 1, in a slice that holds those of a system.
use Rattle.std.proofs.Common.{◌≡◌, ◌⊎◌, inl, inr, ℕ, zero, suc, ◌-◌, ◌<◌, ◌≤◌, List, length, get_or, map, None, Some, IsSome, is_some, slice_get, option_map, refl, sym, ap, ◌∙◌, subst, arith}
use Rattle.std.proofs.lemmas.Option.{slice_get-get_or, slice_get-map, slice_get_past}
use Rattle.std.proofs.lemmas.Bool.{cases_lt, false≢true}
use Rattle.rewriting.specs.Prelude.{Term, var, app, System, rule_at}
use Rattle.term_core.specs.RuleView.{rule_view}
use Rattle.term_core.specs.declared.systems.Rule.{Rule}
use Rattle.rule_index.specs.Roots.{rules_at}
use Rattle.rule_index.specs.Index.{listed_at, IsIndexOf}
use Rattle.rule_index.proofs.Walks.{listed_rule}

module _ (sys : System) (rs : List Rule) (same : map rule_view rs ≡ sys.rules) where
  within : (i : ℕ) → IsSome (rule_at sys (suc i)) → i < length rs
  within i h = go (cases_lt i (length rs))
    where
      go : (i < length rs) ⊎ (length rs ≤ i) → i < length rs
      go (inl l) = l
      go (inr m) =
          absurd (let none : rule_at sys (suc i) ≡ None = sym (ap (λ z. slice_get z i) same) ∙ slice_get-map rule_view rs i ∙ ap (option_map rule_view) (slice_get_past rs i m) in
          false≢true (sym (ap is_some none) ∙ h))

  pub number_low : (n : ℕ) → IsSome (rule_at sys n) → (1 ≤ n) × (n - 1 < length rs)
  number_low zero h = absurd (false≢true h)
  number_low (suc i) h = let l = within i h in (omega arith, omega (arith, l))

  pub rule_is : (n : ℕ) → IsSome (rule_at sys n) → (d : Rule) → rule_at sys n ≡ Some (rule_view (get_or rs (n - 1) d))
  rule_is zero h d = absurd (false≢true h)
  rule_is (suc i) h d =
      let one : i ≡ suc i - 1 = omega arith in
      sym (ap (λ z. slice_get z i) same) ∙ slice_get-map rule_view rs i ∙ ap (option_map rule_view) (slice_get-get_or rs i d (within i h)) ∙ ap (λ k. Some (rule_view (get_or rs k d))) one

-- the numbers at a term are those of the rules with its root
pub index_rules : (sys : System) (index : List (List ℕ)) → IsIndexOf sys index → (t : Term) → listed_at index t ≡ rules_at sys t
index_rules sys index h (var x) = refl
index_rules sys index h (app f ts) = h f

at_some : (sys : System) (t : Term) (i : ℕ) → i < length (rules_at sys t) → IsSome (rule_at sys (get_or (rules_at sys t) i 0))
at_some sys (var x) i l = absurd (omega (arith, l))
at_some sys (app f ts) i l = ap is_some (listed_rule sys f i l).1

pub number_some : (sys : System) (t : Term) (ns : List ℕ) (i : ℕ) → ns ≡ rules_at sys t → i < length ns → IsSome (rule_at sys (get_or ns i 0))
number_some sys t ns i same l = subst (λ z. IsSome (rule_at sys (get_or z i 0))) (sym same) (at_some sys t i (subst (λ z. i < length z) same l))
