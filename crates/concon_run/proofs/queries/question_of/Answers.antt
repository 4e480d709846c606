use Rattle.run_parts.specs.Words.{texts}
use Rattle.concon_run.proofs.Asking.{no_question}
use Rattle.concon_run.proofs.queries.question_of.Goals as goal

pub returns-in_err-file-clause-none : goal.returns-in_err-file-clause-none
returns-in_err-file-clause-none c = rw c.from_residual.ensures (no_question (texts c.args.words.now) c.in_default.ensures.none c.in_err-file.ensures.none)
