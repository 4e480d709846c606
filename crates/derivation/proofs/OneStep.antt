-- A step by a rule, from what is found one after another.
use Rattle.std.proofs.Common.{◌≡◌, ℕ, List, [], map, length, Some, None, Vec, Global, sym, ap, ◌∙◌, subst, inl, inr}
use Rattle.rewriting.specs.Terms as math
use Rattle.rewriting.specs.Prelude.{Position, Bindings, apply, values_of, Condition, Rule, System, rule_at}
use Rattle.rewriting.proofs.Positions.{replaceable}
use Rattle.certificates.specs.Prelude.{by_rule, Derivations, derivations_of, RuleMatches, no_rule, no_position, no_match, count_differs, conditions_fail, right_unbound, result_large}
use Rattle.certificates.specs.Prelude.{derivation_count, StepsTo, StepFails, AreMet, FailFrom, StepReason, no_such_rule, no_redex, wrong_count}
use Rattle.cert_model.specs.DerivationView.{derivation_view, step_view}
use Rattle.cert_model.specs.declared.derivations.Step as program
use Rattle.cert_model.specs.declared.derivations.Derivation.{Derivation}
use Rattle.cert_model.proofs.DerivationViews.{step_of_rule}
use Rattle.derivation.specs.Judged.{IsMatch, IsUnmatchedAt, IsContracted, HasNoContractum}
use Rattle.derivation.specs.declared.instances.Found.{Found}

module _ (sys : System) (hyps : List Condition) (t : math.Term) (s : program.Step) (i : ℕ) (pos : Vec ℕ Global) (conds : Vec Derivation Global) (is : s ≡ program.Rule i pos conds) where
  abbrev p : Position
  p = pos.items

  abbrev ds : Derivations
  ds = derivations_of (map derivation_view conds.items)

  shown : step_view s ≡ by_rule i p ds
  shown = ap step_view is ∙ step_of_rule i pos conds

  failing : (path : List ℕ) (reason : StepReason) → StepFails sys hyps t (by_rule i p ds) path reason → StepFails sys hyps t (step_view s) path reason
  failing path reason h = subst (λ z. StepFails sys hyps t z path reason) (sym shown) h

  pub absent_rule : None ≡ rule_at sys i → StepFails sys hyps t (step_view s) [] no_such_rule
  absent_rule e = failing [] no_such_rule (no_rule (sym e))

  module _ (r : Rule) (at : Some r ≡ rule_at sys i) where
    pub unmatched : (path : List ℕ) (reason : StepReason) → (path ≡ []) × (reason ≡ no_redex) × IsUnmatchedAt r.left t p → StepFails sys hyps t (step_view s) path reason
    unmatched path reason (e, f, none) =
        failing path reason (subst (λ q. StepFails sys hyps t (by_rule i p ds) q reason) (sym e) (subst (λ why. StepFails sys hyps t (by_rule i p ds) [] why) (sym f) (go none)))
      where
        go : IsUnmatchedAt r.left t p → StepFails sys hyps t (by_rule i p ds) [] no_redex
        go (inl none_there) = no_position r (sym at) none_there
        go (inr (part, stands, differs)) = no_match r part (sym at) stands differs

    module _ (found : Found) (m : IsMatch r.left t p found) where
      matched : RuleMatches sys t i p r found.values
      matched = record { is_rule = sym at; redex = m.part; stands = m.stands; matches = m.matches }

      pub miscounted : (derivation_count ds ≡ length r.conditions → ⊥) → StepFails sys hyps t (step_view s) [] wrong_count
      miscounted differs = failing [] wrong_count (count_differs r found.values matched differs)

      pub unmet : derivation_count ds ≡ length r.conditions → (path : List ℕ) (reason : StepReason) → FailFrom sys hyps 1 found.values r.conditions ds path reason
          → StepFails sys hyps t (step_view s) path reason
      unmet count path reason h = failing path reason (conditions_fail r found.values matched count h)

      module _ (values : Bindings) (met : AreMet sys hyps found.values r.conditions ds values) where
        pub stepped : (u : math.Term) → IsContracted r.right values t p u → math.Fits u → StepsTo sys hyps t (step_view s) u
        stepped u h fits =
            subst (λ z. StepsTo sys hyps t z u) (sym shown)
            record { rule = r; match = found.values; rule_matches = matched; values = values; met = met; covered = h.covered; result = h.result; fits = fits }

        pub uncontracted : (path : List ℕ) (reason : StepReason) → (path ≡ []) × HasNoContractum r.right values t p reason → StepFails sys hyps t (step_view s) path reason
        uncontracted path reason (e, h) = failing path reason (subst (λ q. StepFails sys hyps t (by_rule i p ds) q reason) (sym e) (go h))
          where
            go : HasNoContractum r.right values t p reason → StepFails sys hyps t (by_rule i p ds) [] reason
            go (inl (f, free)) = subst (λ why. StepFails sys hyps t (by_rule i p ds) [] why) (sym f) (right_unbound r found.values values matched met free)
            go (inr (f, covered, large)) =
                let whole = replaceable t p m.part (apply (values_of values) r.right) m.stands in
                subst (λ why. StepFails sys hyps t (by_rule i p ds) [] why) (sym f)
                (result_large r found.values values whole.0 matched met covered whole.1 (large whole.0 whole.1))
