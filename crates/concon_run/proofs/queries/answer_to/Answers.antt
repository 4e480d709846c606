use Rattle.std.proofs.Common.{inl, inr, subst}
use Rattle.cc_io.specs.Faults.{Rose}
use Rattle.run_parts.specs.Devices.{shelf_run}
use Rattle.run_parts.specs.Bytes.{told_or_any}
use Rattle.concon_run.specs.Querying.{QueryReplies}
use Rattle.run_parts.proofs.Faults.{rose_since}
use Rattle.concon_run.proofs.Asking.{file_gives_none, query_answered}
use Rattle.concon_run.proofs.queries.answer_to.Goals as goal

pub returns-clause-answers : goal.returns-clause-answers
returns-clause-answers g c =
    let failed = Rose (g.S.Shelf.faults c.system_of.new.shelf c.args.query.now) (g.S.Shelf.faults c.reply_on.new.shelf c.args.query.now) in
    query_answered (shelf_run g.S.Shelf c.args.shelf.now c.reply_on.new.shelf) c.args.file.now c.args.query.now c.args.units
    c.in-Ok.found.0 c.in-Ok.found.1 c.in-Ok.ensures.answers failed (rose_since _ _ _ (c.system_of.ensures.never_falls c.args.query.now)) c.reply_on.result
    (subst (λ contents. QueryReplies (told_or_any (contents c.args.query.now)) failed c.in-Ok.found.0 c.in-Ok.found.1 c.args.units c.reply_on.result)
    c.system_of.ensures.contents c.reply_on.ensures.answers)

pub returns-clause-begins : goal.returns-clause-begins
returns-clause-begins g c = inr c.reply_on.ensures.begun

pub returns-in-Err-clause-answers : goal.returns-in-Err-clause-answers
returns-in-Err-clause-answers g c =
    file_gives_none (shelf_run g.S.Shelf c.args.shelf.now c.system_of.new.shelf) c.args.file.now c.args.query.now c.args.units c.in-Err.why c.in-Err.ensures.answers c.system_of.ensures.begun

pub returns-in-Err-clause-begins : goal.returns-in-Err-clause-begins
returns-in-Err-clause-begins g c = inl c.system_of.ensures.begun
