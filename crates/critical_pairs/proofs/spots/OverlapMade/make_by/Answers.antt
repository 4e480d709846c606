use Rattle.std.proofs.Common.{refl, subst, Err}
use Rattle.rewriting.specs.Prelude.{values_of}
use Rattle.term_core.specs.RuleView.{rule_view}
use Rattle.critical_pairs.specs.Building.{PairAnswers}
use Rattle.critical_pairs.proofs.Runs.{has_position, refused_there}
use Rattle.critical_pairs.proofs.Spot.{inner_fits, outer_fits, few_conditions, overlap_there, pair_too_large}
use Rattle.critical_pairs.proofs.spots.OverlapMade.make_by.Goals as goal

pub pair-requires-clause-inner : goal.pair-requires-clause-inner
pair-requires-clause-inner c =
    let rules = c.rules_at.ensures.renamed c.requires.spot in
    inner_fits c.args.sys.now c.rules_at.ensures.sound _ _ _ c.requires.spot c.rules_at.result.0.now c.rules_at.result.1.now rules.0 rules.1

pub pair-requires-clause-outer : goal.pair-requires-clause-outer
pair-requires-clause-outer c =
    let rules = c.rules_at.ensures.renamed c.requires.spot in
    outer_fits c.args.sys.now c.rules_at.ensures.sound _ _ _ c.requires.spot c.rules_at.result.0.now c.rules_at.result.1.now rules.0 rules.1

pub pair-requires-clause-there : goal.pair-requires-clause-there
pair-requires-clause-there c = has_position _ _ _ _ c.requires.spot _ _ c.rules_at.ensures.renamed

pub pair-requires-clause-few : goal.pair-requires-clause-few
pair-requires-clause-few c =
    let rules = c.rules_at.ensures.renamed c.requires.spot in
    few_conditions c.args.sys.now c.rules_at.ensures.sound _ _ _ c.requires.spot c.rules_at.result.0.now c.rules_at.result.1.now rules.0 rules.1

pub returns-in-Ok : goal.returns-in-Ok
returns-in-Ok c =
    let rules = c.rules_at.ensures.renamed c.requires.spot in
    let q = c.in-Ok.ensures in
    (_, refl, overlap_there c.args.sys.now _ _ _ c.args.m.now c.requires _ _ rules.0 rules.1 c.in-Ok.overlap q.0 q.1 q.2)

pub unreachable-requires : goal.unreachable-requires
unreachable-requires c = rw c.in-Err-NoPosition.field-0-is at c.in-Err-NoPosition.ensures

pub returns-in-Err-TooLarge : goal.returns-in-Err-TooLarge
returns-in-Err-TooLarge c =
    let rules = c.rules_at.ensures.renamed c.requires.spot in
    let q =
    subst (λ z. PairAnswers (values_of c.args.m.now) c.args.triple.now.inner c.args.triple.now.pos.now c.args.triple.now.outer (rule_view c.rules_at.result.0.now)
    (rule_view c.rules_at.result.1.now) (Err z)) c.in-Err-TooLarge.field-0-is
    c.in-Err-TooLarge.ensures in
    refused_there _ _ _ _ c.too_large.result (pair_too_large c.args.sys.now _ _ _ c.args.m.now c.requires _ _ rules.0 rules.1 q) c.too_large.ensures
