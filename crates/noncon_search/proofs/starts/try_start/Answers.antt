use Rattle.std.proofs.Common.{◌∙◌, [], Err, ap, subst}
use Rattle.term_core.specs.View.{view}
use Rattle.reach.specs.Answers.{ReachAnswers}
use Rattle.reach.specs.EntryView.{table_view}
use Rattle.noncon_search.specs.Answers.{pair_items, WalkAnswers}
use Rattle.search_answers.specs.Answers.{ending_of}
use Rattle.search_answers.proofs.Walking.{last_part}
use Rattle.noncon_search.proofs.Walking.{listing_made, listing_stops}
use Rattle.noncon_search.proofs.starts.try_start.Goals as goal

pub returns-in-Ok : goal.returns-in-Ok
returns-in-Ok c =
    let names = c.args.names.now in
    let sys = c.args.sys.now in
    let t = view c.args.start.now in
    last_part (listing_made names sys t c.args.budget.now c.reach_in.new.budget c.in-Ok.ensures.listed.1) ending_of c.try_listed.new.budget c.try_listed.result
    (subst (λ l. WalkAnswers names sys (pair_items t l) c.reach_in.new.budget c.try_listed.new.budget c.try_listed.result)
    (ap table_view c.deref.ensures.value ∙ c.in-Ok.ensures.listed.0) c.try_listed.ensures)

pub returns-in-Err-Spent : goal.returns-in-Err-Spent
returns-in-Err-Spent c =
    listing_stops c.args.names.now c.args.sys.now (view c.args.start.now) c.args.budget.now c.reach_in.new.budget
    (subst (λ z. ReachAnswers c.args.sys.now [] (view c.args.start.now) 5 2 c.args.budget.now c.reach_in.new.budget (Err z)) c.in-Err-Spent.field-0-is c.in-Err-Spent.ensures.listed)
