use Rattle.std.proofs.Common.{◌≡◌, map, filter}
use Rattle.std.specs.List.{range_with_len}
use Rattle.term_core.specs.RuleView.{condition_view}
use Rattle.query_space.specs.Variables.{is_open}
use Rattle.query_search.proofs.occurring.open_variables.Given as goal

abbrev pub invariant-numbers : goal.invariant-numbers
invariant-numbers l = l.out.items ≡ filter (λ x. is_open x (map condition_view l.conds)) (range_with_len 0 l.x)
