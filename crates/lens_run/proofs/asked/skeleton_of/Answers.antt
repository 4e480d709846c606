use Rattle.lens_run.specs.Commands.{kind_word}
use Rattle.lens_run.proofs.asked.skeleton_of.Goals as goal

pub returns-in_err-file-clause-none : goal.returns-in_err-file-clause-none
returns-in_err-file-clause-none c = rw c.from_residual.ensures (λ file kind. c.in_err-file.ensures.none file (kind_word kind))
