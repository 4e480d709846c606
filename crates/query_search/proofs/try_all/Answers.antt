use Rattle.std.proofs.Common.{map, ap}
use Rattle.term_core.specs.RuleView.{condition_view}
use Rattle.query_space.specs.Items.{evidence_items, value_items, query_item_cost, GivesAnswer}
use Rattle.search_answers.proofs.Walking.{two_parts, first_part}
use Rattle.query_search.specs.Answers.{reply_view}
use Rattle.query_search.proofs.Ending.{not_nothing}
use Rattle.query_search.proofs.try_all.Goals as goal

pub returns-in-Exhausted : goal.returns-in-Exhausted
returns-in-Exhausted c =
    let sys = c.args.sys.now in
    let cs = map condition_view c.args.conds.now in
    two_parts (query_item_cost sys cs) (GivesAnswer sys cs) (evidence_items cs) (value_items sys cs) c.args.budget.now c.try_evidences.new.budget reply_view c.try_assignments.new.budget
    (reply_view c.in_ok-end.end) (ap reply_view c.in-Exhausted.is) c.in_ok-end.ensures c.try_assignments.result c.try_assignments.ensures

pub returns-in_default : goal.returns-in_default
returns-in_default c =
    let sys = c.args.sys.now in
    let cs = map condition_view c.args.conds.now in
    first_part (query_item_cost sys cs) (GivesAnswer sys cs) (evidence_items cs) (value_items sys cs) c.args.budget.now c.try_evidences.new.budget
    (reply_view c.in_ok-end.end) (not_nothing c.in_ok-end.end c.in_default.not-Exhausted) c.in_ok-end.ensures
