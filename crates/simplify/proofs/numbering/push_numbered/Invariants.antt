use Rattle.std.proofs.Common.{take, map}
use Rattle.term_core.specs.RuleView.{condition_view}
use Rattle.simplify.specs.Numbering.{AddsNumbered}
use Rattle.simplify.proofs.numbering.push_numbered.Given as goal

abbrev pub invariant-loop-cond : goal.invariant-loop-cond
invariant-loop-cond l =
    AddsNumbered (map condition_view (take l.cond-index l.conds)) (map condition_view l.fn.out.items) l.fn.row (map condition_view l.out.items) l.row
