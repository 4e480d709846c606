use Rattle.run_parts.specs.Words.{texts}
use Rattle.lens_run.proofs.Commands.{no_seek}
use Rattle.lens_run.proofs.asked.seek_of.Goals as goal

pub returns-in_err-file-clause-none : goal.returns-in_err-file-clause-none
returns-in_err-file-clause-none c = rw c.from_residual.ensures (no_seek (texts c.args.words.now) c.in_default.ensures.none c.in_err-file.ensures.none)
