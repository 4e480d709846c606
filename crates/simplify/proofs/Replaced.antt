-- What is known of a rule of a system, and steps that speak of it.
use Rattle.std.proofs.Common.{◌≡◌, ℕ, zero, suc, ◌+◌, ◌<◌, ◌≤◌, ◌⊎◌, inl, inr, refl, sym, ap, ◌∙◌, subst, List, [], ◌∷◌, length, map, get_or, slice_get, Some, None, arith, add-one}
use Rattle.std.proofs.lemmas.Option.{slice_get_past}
use Rattle.std.proofs.lemmas.List.{length-map}
use Rattle.general_lemmas.proofs.Places.{slice_get-map_read}
use Rattle.rewriting.specs.Rules as math
use Rattle.rewriting.specs.Prelude.{rule_at, Each, terms_of_rule, rule_variables, IsRule, IsSystem, Fits}
use Rattle.rewriting.proofs.Systems.{is_rule_at}
use Rattle.rewriting.proofs.Members.{at_place}
use Rattle.certificates.specs.Prelude.{InfeasibilityEvidence, hypothesis_at, EvidenceReason, DoConditionsFit, dropped, inlined, missing_rule, missing_condition, not_inline, inlined_large}
use Rattle.certificates.specs.Prelude.{bad_evidence}
use Rattle.certificates.proofs.Sizes.{conditions_fit}
use Rattle.judged_evidence.specs.Evidence.{IsInfeasibilityJudged}
use Rattle.term_core.specs.RuleView.{condition_view, rule_view}
use Rattle.term_core.specs.declared.systems.Cond.{Cond}
use Rattle.term_core.specs.declared.systems.Rule.{Rule}
use Rattle.simplifications.specs.Inlining.{Names, inlined_rule, numbered}
use Rattle.simplifications.specs.Simplifying.{with_in_place, Simplifies, IsRefused, no_rule_to_drop, evidence_fails, no_rule_to_change, no_condition, names_nothing, result_large}
use Rattle.simplifications.proofs.Systems.{step_makes}
use Rattle.simplify.specs.Changes.{IsChangeOf}

module _ (sys : math.System) (sound : IsSystem sys) (rs : List Rule) (are : map rule_view rs ≡ sys.rules) where
  pub rule_here : (i : ℕ) (r : Rule) → i < length rs → r ≡ get_or rs i r → slice_get sys.rules i ≡ Some (rule_view r)
  rule_here i r h e = subst (λ z. slice_get z i ≡ Some (rule_view r)) are (slice_get-map_read rule_view rs i r h e)

  count : length rs ≡ length sys.rules
  count = sym (length-map rs rule_view) ∙ ap length are

  sound_here : (i : ℕ) (r : Rule) → i < length rs → r ≡ get_or rs i r → IsRule sys.arities (rule_view r)
  sound_here i r h e = is_rule_at sys.arities sys.rules i (rule_view r) sound.rules (rule_here i r h e)

  pub few_here : (i : ℕ) (r : Rule) → i < length rs → r ≡ get_or rs i r → length r.conds.items ≤ 100
  few_here i r h e = let few = (sound_here i r h e).few_conditions in let same = length-map r.conds.items condition_view in omega (arith, few, same)

  pub fit_here : (i : ℕ) (r : Rule) → i < length rs → r ≡ get_or rs i r → Each Fits (terms_of_rule (rule_view r))
  fit_here i r h e = (sound_here i r h e).fits

  pub conds_fit : (i : ℕ) (r : Rule) → i < length rs → r ≡ get_or rs i r → DoConditionsFit (map condition_view r.conds.items)
  conds_fit i r h e = conditions_fit (map condition_view r.conds.items) (fit_here i r h e).1.1

  -- there is no such rule
  none_at : (number : ℕ) → (number ≡ 0) ⊎ (length rs < number) → rule_at sys number ≡ None
  none_at zero h = refl
  none_at (suc n) (inl e) = absurd (omega (arith, e))
  none_at (suc n) (inr h) = slice_get_past sys.rules n (let e = count in omega (arith, h, e))

  pub no_drop : (number : ℕ) (e : InfeasibilityEvidence) → (number ≡ 0) ⊎ (length rs < number) → IsRefused sys (dropped number e) missing_rule
  no_drop number e h = no_rule_to_drop number e (none_at number h)

  pub no_change : (number cond : ℕ) → (number ≡ 0) ⊎ (length rs < number) → IsRefused sys (inlined number cond) missing_rule
  no_change number cond h = no_rule_to_change number cond (none_at number h)

  module _ (number i : ℕ) (r : Rule) (is : number ≡ i + 1) (h : i < length rs) (e : r ≡ get_or rs i r) where
    here : slice_get sys.rules i ≡ Some (rule_view r)
    here = rule_here i r h e

    numbers : number ≡ suc i
    numbers = is ∙ add-one i

    at_number : rule_at sys number ≡ Some (rule_view r)
    at_number = subst (λ z. rule_at sys z ≡ Some (rule_view r)) (sym numbers) here

    within : i < length sys.rules
    within = let f = count in omega (arith, h, f)

    pub good_drop : (ev : InfeasibilityEvidence) (cs : List Cond) → cs ≡ r.conds.items → IsInfeasibilityJudged sys (map condition_view cs) ev None
        → IsChangeOf sys (record { place = i; rule = None }) × Simplifies sys (dropped number ev) (with_in_place sys i [])
    good_drop ev cs same j =
        let good : Simplifies sys (dropped number ev) (with_in_place sys i []) =
        subst (λ z. Simplifies sys (dropped z ev) (with_in_place sys i [])) (sym numbers)
        (record { rule = rule_view r; is_rule = here; never_met = subst (λ z. IsInfeasibilityJudged sys (map condition_view z) ev None) same j; result = refl }) in
        (record { inside = within; system = step_makes sys (with_in_place sys i []) (dropped number ev) sound good; counted = tt }, good)

    pub bad_drop : (ev : InfeasibilityEvidence) (why : EvidenceReason) (cs : List Cond) → cs ≡ r.conds.items → IsInfeasibilityJudged sys (map condition_view cs) ev (Some why)
        → IsRefused sys (dropped number ev) (bad_evidence why)
    bad_drop ev why cs same j = evidence_fails number ev (rule_view r) why at_number (subst (λ z. IsInfeasibilityJudged sys (map condition_view z) ev (Some why)) same j)

    none_there : (cond : ℕ) → (cond ≡ 0) ⊎ (length r.conds.items < cond) → hypothesis_at (map condition_view r.conds.items) cond ≡ None
    none_there zero k = refl
    none_there (suc n) (inl k) = absurd (omega (arith, k))
    none_there (suc n) (inr k) = slice_get_past (map condition_view r.conds.items) n (let f = length-map r.conds.items condition_view in omega (arith, k, f))

    pub no_such_condition : (cond : ℕ) → (cond ≡ 0) ⊎ (length r.conds.items < cond) → IsRefused sys (inlined number cond) missing_condition
    no_such_condition cond k = no_condition number cond (rule_view r) at_number (none_there cond k)

    module _ (cond k : ℕ) (same : cond ≡ k + 1) (inside : k < length r.conds.items) where
      condition_there : (c : math.Condition) × (slice_get (rule_view r).conditions k ≡ Some c)
      condition_there = at_place (rule_view r).conditions k (let f = length-map r.conds.items condition_view in omega (arith, inside, f))

      places : suc k ≡ cond
      places = sym (same ∙ add-one k)

      pub no_naming : ((c : math.Condition) (x : ℕ) → slice_get (rule_view r).conditions k ≡ Some c → Names (rule_view r) k c x → ⊥) → IsRefused sys (inlined number cond) not_inline
      no_naming none =
          let c = condition_there in
          subst (λ z. IsRefused sys (inlined number z) not_inline) places (names_nothing number k (rule_view r) c.0 at_number c.1 (λ x n. none c.0 x c.1 n))

      module _ (x : ℕ) (names : (c : math.Condition) → slice_get (rule_view r).conditions k ≡ Some c → Names (rule_view r) k c x) where
        pub too_large_here : ((c : math.Condition) → slice_get (rule_view r).conditions k ≡ Some c → Each Fits (terms_of_rule (inlined_rule (rule_view r) k c.left x)) → ⊥)
            → IsRefused sys (inlined number cond) inlined_large
        too_large_here large =
            let c = condition_there in
            subst (λ z. IsRefused sys (inlined number z) inlined_large) places (result_large number k (rule_view r) c.0 x at_number c.1 (names c.0 c.1) (large c.0 c.1))

        pub good_inline : (new : Rule)
            → ((c : math.Condition) → slice_get (rule_view r).conditions k ≡ Some c → (rule_view new ≡ numbered (inlined_rule (rule_view r) k c.left x))
            × (new.vars ≡ length (rule_variables (rule_view new))) × Each Fits (terms_of_rule (inlined_rule (rule_view r) k c.left x)))
            → IsChangeOf sys (record { place = i; rule = Some new }) × Simplifies sys (inlined number cond) (with_in_place sys i (rule_view new ∷ []))
        good_inline new answer =
            let c = condition_there in
            let a = answer c.0 c.1 in
            let good : Simplifies sys (inlined number cond) (with_in_place sys i (rule_view new ∷ [])) =
            subst (λ z. Simplifies sys (inlined z cond) (with_in_place sys i (rule_view new ∷ []))) (sym numbers)
            (subst (λ z. Simplifies sys (inlined (suc i) z) (with_in_place sys i (rule_view new ∷ []))) places
            (record { rule = rule_view r; is_rule = here; condition = c.0; is_condition = c.1; name = x; names = names c.0 c.1; fits = a.2; result = ap (λ z. with_in_place sys i (z ∷ [])) a.0 })) in
            (record { inside = within; system = step_makes sys (with_in_place sys i (rule_view new ∷ [])) (inlined number cond) sound good; counted = a.1 }, good)
