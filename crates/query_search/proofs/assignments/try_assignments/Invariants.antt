use Rattle.std.proofs.Common.{◌≡◌, map, length}
use Rattle.std.specs.FinMap.{empty}
use Rattle.term_core.specs.RuleView.{condition_view}
use Rattle.query_space.specs.Items.{try_values, value_items, query_item_cost, GivesAnswer}
use Rattle.query_search.specs.Choices as choices
use Rattle.search_answers.proofs.Walking.{Walking}
use Rattle.query_search.proofs.assignments.try_assignments.Given as goal

abbrev pub invariant-assignments : goal.invariant-assignments
invariant-assignments l = record {
  as_many : length l.turns.numbers.items ≡ length l.open.items;
  last : l.turns.last ≡ length l.constants.items;
  walking : Walking (query_item_cost l.sys (map condition_view l.conds)) (GivesAnswer l.sys (map condition_view l.conds)) (value_items l.sys (map condition_view l.conds)) l.fn.budget l.budget
      (map try_values (choices.chosen_from (choices.constants_of l.constants.items) empty l.open.items l.turns.numbers.items));
}

-- each assignment takes a unit
abbrev pub decreases-assignments : goal.decreases-assignments
decreases-assignments l = l.budget.left
