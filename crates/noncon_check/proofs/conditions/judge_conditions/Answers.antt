use Rattle.std.proofs.Common.{inr, refl, ap, ◌∙◌, map}
use Rattle.term_core.specs.RuleView.{condition_view}
use Rattle.redex_conditions.proofs.Completing.{few_instances, judged_fitting}
use Rattle.noncon_check.proofs.conditions.judge_conditions.Goals as goal

pub conditions_at-requires-clause-sound : goal.conditions_at-requires-clause-sound
conditions_at-requires-clause-sound c = (_, c.requires.sound)

pub check_infeasible_in-requires-clause-few : goal.check_infeasible_in-requires-clause-few
check_infeasible_in-requires-clause-few c =
    let h = rw c.in-Some.is at c.in_ok-conds.ensures in few_instances _ _ c.requires.sound _ _ _ refl (ap (map condition_view) c.deref.ensures.value ∙ h.0)

pub returns-in-Some : goal.returns-in-Some
returns-in-Some c =
    let h = rw c.in-Some.is at c.in_ok-conds.ensures in judged_fitting _ _ _ _ _ (ap (map condition_view) c.deref.ensures.value ∙ h.0) h.1 c.check_infeasible_in.ensures.judged

pub returns-in-None : goal.returns-in-None
returns-in-None c = let h = rw c.in-None.is at c.in_ok-conds.ensures in inr (h, refl)
