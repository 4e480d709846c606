use Rattle.std.proofs.Common.{◌≤◌, length, map, sym, subst}
use Rattle.certificates.specs.Sizes.{DoConditionsFit}
use Rattle.term_core.specs.RuleView.{condition_view}
use Rattle.critical_pairs.specs.View.{overlap_view}
use Rattle.pair_check.proofs.Ready.{ready, few_conditions}
use Rattle.shown_systems.proofs.failures.put_list.Goals as goal

pub listed-requires-clause-fit : goal.listed-requires-clause-fit
listed-requires-clause-fit c =
    let small = ready c.args.subject.now.prepared.now (overlap_view c.args.overlap.now) c.rules_are_sound.ensures c.requires.overlap in
    subst (λ cs. DoConditionsFit (map condition_view cs)) (sym c.deref.ensures.value) small.conditions

pub listed-requires-clause-few : goal.listed-requires-clause-few
listed-requires-clause-few c =
    let few = few_conditions c.args.subject.now.prepared.now c.args.overlap.now c.rules_are_sound.ensures c.requires.overlap in
    subst (λ cs. length cs ≤ 200) (sym c.deref.ensures.value) few
