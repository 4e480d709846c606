use Rattle.cc_count.proofs.Spending.{none_left}
use Rattle.std.proofs.Common.{map, refl, arith}
use Rattle.std.specs.Prelude.{option_map}
use Rattle.term_core.specs.RuleView.{condition_view}
use Rattle.reach.specs.SolutionView.{solution_view}
use Rattle.query_space.specs.Items as items
use Rattle.search_answers.proofs.Walking.{item_stops}
use Rattle.query_search.proofs.Full.{values_end, values_stop, values_fail}
use Rattle.query_search.proofs.values.try_values.Goals as goal

pub returns-then-not-take : goal.returns-then-not-take
returns-then-not-take c =
    let cs = map condition_view c.args.conds.now in
    item_stops (items.query_item_cost c.args.sys.now cs) (items.GivesAnswer c.args.sys.now cs) (items.try_values c.args.values.now) c.args.budget.now c.take.new.self (omega arith)
    (none_left c.args.budget.now c.if-not-take.ensures.some.1) (c.if-not-take.ensures.none refl)

pub returns-in-Ok : goal.returns-in-Ok
returns-in-Ok c =
    values_end c.args.sys.now (map condition_view c.args.conds.now) c.args.values.now c.args.budget.now c.take.new.self c.first_solution.new.budget (c.if-not-take.ensures.taken refl)
    (option_map solution_view c.in-Ok.full) c.in-Ok.ensures.found.0 c.in-Ok.ensures.found.1 c.carried.result c.carried.ensures

pub returns-in-Err-Spent : goal.returns-in-Err-Spent
returns-in-Err-Spent c =
    let sys = c.args.sys.now in
    let cs = map condition_view c.args.conds.now in
    let b = c.args.values.now in
    values_stop sys cs b c.args.budget.now c.take.new.self c.first_solution.new.budget (c.if-not-take.ensures.taken refl) (rw c.in-Err-Spent.field-0-is at c.in-Err-Spent.ensures.found)

pub returns-in-Err-NoMemory : goal.returns-in-Err-NoMemory
returns-in-Err-NoMemory c =
    let sys = c.args.sys.now in
    let cs = map condition_view c.args.conds.now in
    let b = c.args.values.now in
    values_fail sys cs b c.args.budget.now c.take.new.self c.first_solution.new.budget (c.if-not-take.ensures.taken refl) (rw c.in-Err-NoMemory.field-0-is at c.in-Err-NoMemory.ensures.found)
