use Rattle.cops_read.specs.Answers.{ReadAnswers}
use Rattle.cops_read.proofs.Readings.{no_tree, read_from}
use Rattle.cops_read.proofs.Firsts.{handed}
use Rattle.cops_read.proofs.read_system.Goals as goal
use Rattle.cops_read.specs.Steps.{read_error_of}

pub returns-in_err-file : goal.returns-in_err-file
returns-in_err-file c =
    handed (ReadAnswers c.args.bytes.now) (read_error_of c.in_err-file.field-0.0) c.from_residual.result c.from_residual.ensures.1
    (no_tree c.args.bytes.now c.in_err-file.field-0.0 c.in_err-file.ensures)

pub returns : goal.returns
returns c = read_from c.args.bytes.now c.in_ok-file.ensures.0 c.read_file.result c.in_ok-file.ensures.1 (c.read_file.ensures c.in_ok-file.ensures.0 c.in_ok-file.ensures.2)
