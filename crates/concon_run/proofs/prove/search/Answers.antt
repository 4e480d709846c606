use Rattle.run_parts.specs.Devices.{shelf_run}
use Rattle.concon_run.proofs.Searches.{file_gives_none, search_answered}
use Rattle.concon_run.proofs.prove.search.Goals as goal

pub returns-in-Err-clause-answers : goal.returns-in-Err-clause-answers
returns-in-Err-clause-answers g c =
    file_gives_none (shelf_run g.S.Shelf c.args.shelf.now c.system_of.new.shelf) c.args.file.now c.args.budget c.in-Err.why c.in-Err.ensures.answers

pub returns-in-Ok-outcome_within-clause-answers : goal.returns-in-Ok-outcome_within-clause-answers
returns-in-Ok-outcome_within-clause-answers g c =
    search_answered (shelf_run g.S.Shelf c.args.shelf.now c.system_of.new.shelf) c.args.file.now c.args.budget
    c.in-Ok.found.0 c.in-Ok.found.1 c.in-Ok.ensures.answers c.in-Ok-outcome_within.outcome c.in-Ok-outcome_within.ensures
