use Rattle.std.proofs.Common.{Err, subst}
use Rattle.run_parts.specs.Bytes.{told_or_any}
use Rattle.concon_run.specs.Querying.{BytesReply}
use Rattle.concon_run.proofs.Asking.{query_not_read, query_refused}
use Rattle.concon_run.proofs.queries.reply_on.Goals as goal

pub returns-in-Err-clause-answers : goal.returns-in-Err-clause-answers
returns-in-Err-clause-answers g c = query_not_read _ _ c.args.sys.now c.args.names c.args.units c.in-Err.error c.in-Err.ensures.fault c.in-Err.ensures.longer

pub returns-in-Err-asked_within-clause-answers : goal.returns-in-Err-asked_within-clause-answers
returns-in-Err-asked_within-clause-answers g c =
    query_refused (told_or_any (g.S.Shelf.contents c.args.shelf.now c.args.query.now)) (Unit {0}) c.args.sys.now c.args.names c.args.units c.in-Ok.bytes.items c.in-Ok.ensures.all c.in-Ok.ensures.limit
    c.in-Err-asked_within.error (subst (λ b. BytesReply c.args.sys.now c.args.names b c.args.units (Err c.in-Err-asked_within.error)) c.deref.ensures.value c.in-Err-asked_within.ensures)
