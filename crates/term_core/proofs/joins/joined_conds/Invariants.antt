use Rattle.std.proofs.Common.{◌≡◌, ◌++◌, map}
use Rattle.join_systems.specs.Joined.{joined_condition}
use Rattle.term_core.specs.RuleView.{condition_view}
use Rattle.term_core.proofs.joins.joined_conds.Given as goal

abbrev pub invariant-loop-cond : goal.invariant-loop-cond
invariant-loop-cond l =
    map condition_view l.out.items ++ map (joined_condition l.fn.own) (map condition_view l.cond-iterator.rest.items)
    ≡ map (joined_condition l.fn.own) (map condition_view l.fn.conds.items)
