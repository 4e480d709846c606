use Rattle.cc_count.proofs.Spending.{kept_on}
use Rattle.quasi_search.proofs.TwoLists.{grid_stops, behind}
use Rattle.quasi_search.proofs.measures.search_measures.Goals as goal

pub returns-in-Nothing-clause-answer : goal.returns-in-Nothing-clause-answer
returns-in-Nothing-clause-answer c =
    let told = rw c.in-Nothing.is at c.in_ok-linear.ensures.answer in
    behind c.args.sys.now told.0 told.2 c.args.budget.now c.search_grid.new.budget c.search_orders.new.budget told.1 c.search_orders.result c.search_orders.ensures.answer

pub returns-in-Nothing-clause-kept : goal.returns-in-Nothing-clause-kept
returns-in-Nothing-clause-kept c = kept_on _ _ _ c.in_ok-linear.ensures.kept c.search_orders.ensures.kept

pub returns-in-Spent-clause-answer : goal.returns-in-Spent-clause-answer
returns-in-Spent-clause-answer c =
    let told = rw c.in-Spent.is at c.in_ok-linear.ensures.answer in (told.0, told.1, told.2, grid_stops c.args.sys.now told.0 told.3)
