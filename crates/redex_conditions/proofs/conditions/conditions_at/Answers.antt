use Rattle.std.proofs.Common.{sym, ap, ◌∙◌, subst, map}
use Rattle.rewriting.specs.Prelude.{conditions_under, values_of}
use Rattle.certificates.specs.Sizes.{DoConditionsFit}
use Rattle.term_core.specs.RuleView.{condition_view}
use Rattle.redex_conditions.proofs.Completing.{rule_fits, completed_conditions}
use Rattle.redex_conditions.proofs.conditions.conditions_at.Goals as goal

pub instances-requires : goal.instances-requires
instances-requires c = subst (λ z. DoConditionsFit (map condition_view z)) (sym c.deref.ensures.value) (rule_fits _ _ c.requires.sound.1)

pub returns-in-Ok : goal.returns-in-Ok
returns-in-Ok c =
    let same = ap (λ z. conditions_under (values_of c.complete.new.values) (map condition_view z)) c.deref.ensures.value ∙ completed_conditions _ _ c.requires.sound.1 _ _ _ c.in_ok-complete.ensures in
    (c.in-Ok.ensures.0 ∙ same, subst DoConditionsFit same c.in-Ok.ensures.1)

pub returns-in-Err-TooLarge : goal.returns-in-Err-TooLarge
returns-in-Err-TooLarge c =
    let same = ap (λ z. conditions_under (values_of c.complete.new.values) (map condition_view z)) c.deref.ensures.value ∙ completed_conditions _ _ c.requires.sound.1 _ _ _ c.in_ok-complete.ensures in
    let large : DoConditionsFit (conditions_under (values_of c.complete.new.values) (map condition_view c.deref.result.now)) → ⊥ = rw c.in-Err-TooLarge.field-0-is at c.in-Err-TooLarge.ensures in
    λ fit. large (subst DoConditionsFit (sym same) fit)

pub unreachable-requires : goal.unreachable-requires
unreachable-requires c = rw c.in-Err-NoPosition.field-0-is at c.in-Err-NoPosition.ensures
