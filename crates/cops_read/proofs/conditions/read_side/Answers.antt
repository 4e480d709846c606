use Rattle.std.proofs.Common.{[], append-nil, sym, ◌∙◌}
use Rattle.file_text.specs.Syntax.{flat}
use Rattle.cops_read.specs.Uses.{side_of}
use Rattle.cops_read.specs.Walks.{SideAnswers}
use Rattle.cops_read.proofs.Parts.{side_read}
use Rattle.cops_read.proofs.Firsts.{handed}
use Rattle.cops_read.proofs.conditions.read_side.Goals as goal

pub returns-in_err-term-clause-side : goal.returns-in_err-term-clause-side
returns-in_err-term-clause-side g c p h =
    let H = g.H.HeadReader in
    handed (SideAnswers (H.cause (H.kept c.args.reader.now)) (H.block (H.kept c.args.reader.now)) H.tells (H.symbols c.args.reader.now) (H.variables c.args.reader.now)
    (side_of c.args.rule c.args.condition c.args.is_left) p (H.symbols c.read_term.new.reader) (H.variables c.read_term.new.reader)) c.in_err-term.field-0.0 c.from_residual.result
    c.from_residual.ensures.1 (c.in_err-term.ensures.term p [] (h ∙ sym (append-nil (flat p))))

pub returns-clause-side : goal.returns-clause-side
returns-clause-side g c p h = side_read (c.in_ok-term.ensures.term p [] (h ∙ sym (append-nil (flat p))))
