use Rattle.std.proofs.Common.{◌<◌, ◌^◌, length, map, sym, subst, arith}
use Rattle.certificates.specs.Sizes.{DoConditionsFit}
use Rattle.term_core.specs.Prelude.{view, condition_view}
use Rattle.critical_pairs.specs.View.{overlap_view}
use Rattle.reach.proofs.Fitting.{list_fits, list_once}
use Rattle.pair_check.proofs.Ready.{ready, few_conditions}
use Rattle.quasi_search.proofs.listed.listed_within.Goals as goal

pub reach_in-requires-clause-hypotheses : goal.reach_in-requires-clause-hypotheses
reach_in-requires-clause-hypotheses c =
    let small = ready c.args.sys.now (overlap_view c.args.overlap.now) c.rules_are_sound.ensures c.requires.overlap in
    subst (λ cs. DoConditionsFit (map condition_view cs)) (sym c.deref.ensures.value) small.conditions

pub reach_in-requires-clause-few : goal.reach_in-requires-clause-few
reach_in-requires-clause-few c =
    let few = few_conditions c.args.sys.now c.args.overlap.now c.rules_are_sound.ensures c.requires.overlap in
    subst (λ cs. length cs < 2 ^ 32) (sym c.deref.ensures.value) (omega (arith, few))

pub returns-in-Ok-clause-fit : goal.returns-in-Ok-clause-fit
returns-in-Ok-clause-fit c = list_fits _ _ _ _ (view c.args.start.now) _ c.in-Ok.ensures.listed.0 c.requires.start

pub returns-in-Ok-clause-once : goal.returns-in-Ok-clause-once
returns-in-Ok-clause-once c = list_once _ _ _ _ (view c.args.start.now) _ c.in-Ok.ensures.listed.0
