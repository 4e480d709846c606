use Rattle.std.proofs.Common.{map, length}
use Rattle.term_core.specs.RuleView.{condition_view}
use Rattle.noncon_search.proofs.Firsts.{none_before, growth_gives, behind_more, all_tried}
use Rattle.noncon_search.proofs.trying.try_growths.Goals as goal

pub growths-init : goal.growths-init
growths-init c = none_before c.args.sys.now (map condition_view c.args.conds.now) (length c.args.conds.now)

pub growths-preserved : goal.growths-preserved
growths-preserved c =
    behind_more c.args.sys.now (map condition_view c.args.conds.now) c.growths.before (length c.args.conds.now) c.growths-test.true c.growths.invariant (rw c.in_default.is at c.in_ok-evidence.ensures)

pub returns-in-Some : goal.returns-in-Some
returns-in-Some c =
    growth_gives c.args.sys.now (map condition_view c.args.conds.now) c.growths.before (length c.args.conds.now) c.growths-test.true c.growths.invariant c.in-Some.evidence
    (rw c.in-Some.is at c.in_ok-evidence.ensures)

pub returns : goal.returns
returns c = all_tried c.args.sys.now (map condition_view c.args.conds.now) c.growths.before (length c.args.conds.now) c.growths-test.false c.growths.invariant
