use Rattle.noncon_search.proofs.Ending.{walk_searched, nothing_valid}
use Rattle.noncon_search.proofs.search_peak_over.Goals as goal

pub returns-clause-searched : goal.returns-clause-searched
returns-clause-searched c = walk_searched c.args.names.now c.args.sys.now c.args.budget.now c.try_starts.new.budget c.try_starts.result c.try_starts.ensures

pub returns-clause-nothing : goal.returns-clause-nothing
returns-clause-nothing c =
    nothing_valid c.args.names.now c.args.sys.now c.args.budget.now c.try_starts.new.budget c.try_starts.result
    (walk_searched c.args.names.now c.args.sys.now c.args.budget.now c.try_starts.new.budget c.try_starts.result c.try_starts.ensures)
