use Rattle.run_parts.specs.Words.{texts}
use Rattle.concon_run.proofs.OneCommand.{no_command}
use Rattle.concon_run.proofs.commands.asked_of.Goals as goal

pub returns-in_err-question-clause-none : goal.returns-in_err-question-clause-none
returns-in_err-question-clause-none c = rw c.from_residual.ensures
    (no_command (texts c.args.words.now) c.in_default.ensures.none c.in_default-prove_of.ensures.none c.in_default-selftest_of.ensures.none c.in_err-question.ensures.none)
