use Rattle.std.proofs.Common.{map}
use Rattle.term_core.specs.RuleView.{condition_view}
use Rattle.search_spaces.specs.Refuting.{growths}
use Rattle.query_space.specs.Items.{try_refuting, query_item_cost, GivesAnswer}
use Rattle.search_spaces.proofs.Growths.{growths_behind}
use Rattle.search_answers.proofs.Walking.{Walking}
use Rattle.query_search.proofs.refuting.try_growths.Given as goal

abbrev pub invariant-growths : goal.invariant-growths
invariant-growths l =
    Walking (query_item_cost l.sys (map condition_view l.conds)) (GivesAnswer l.sys (map condition_view l.conds))
    (map try_refuting (growths l.count)) l.fn.budget l.budget (map try_refuting (growths_behind l.before l.count))
