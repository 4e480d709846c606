use Rattle.std.proofs.Common.{◌≤◌, length, map, sym, subst}
use Rattle.certificates.specs.Sizes.{DoConditionsFit}
use Rattle.term_core.specs.RuleView.{condition_view}
use Rattle.critical_pairs.specs.View.{overlap_view}
use Rattle.pair_check.proofs.Ready.{ready, few_conditions}
use Rattle.shown_systems.proofs.failures.put_refutings.Goals as goal

pub put_growths-requires-clause-fit : goal.put_growths-requires-clause-fit
put_growths-requires-clause-fit c =
    let small = ready c.args.subject.now.prepared.now (overlap_view c.args.overlap.now) c.rules_are_sound.ensures c.requires.overlap in
    subst (λ cs. DoConditionsFit (map condition_view cs)) (sym c.deref.ensures.value) small.conditions

pub put_growths-requires-clause-few : goal.put_growths-requires-clause-few
put_growths-requires-clause-few c =
    let few = few_conditions c.args.subject.now.prepared.now c.args.overlap.now c.rules_are_sound.ensures c.requires.overlap in
    subst (λ cs. length cs ≤ 200) (sym c.deref.ensures.value) few
