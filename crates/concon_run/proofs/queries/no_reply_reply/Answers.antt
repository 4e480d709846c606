use Rattle.std.proofs.Common.{sym, subst, Err}
use Rattle.concon_run.specs.Query.{said_of_query}
use Rattle.concon_run.specs.Querying.{query_reply}
use Rattle.concon_run.specs.Replies.{reply_said, said_if_any}
use Rattle.concon_run.specs.Said.{IsSaidIfMemory}
use Rattle.concon_run.proofs.Asking.{no_system_says, refused_query_says}
use Rattle.concon_run.proofs.queries.no_reply_reply.Goals as goal

pub returns-in-NoSystem : goal.returns-in-NoSystem
returns-in-NoSystem c =
    subst (λ w. IsSaidIfMemory (said_if_any (said_of_query c.args.question.file.now c.args.question.query.now) (query_reply (Err w))) (reply_said c.no_system_reply.result)) (sym c.in-NoSystem.is)
    (no_system_says c.args.question.file.now c.args.question.query.now c.in-NoSystem.error (reply_said c.no_system_reply.result) c.no_system_reply.ensures)

pub returns-in-QueryRefused : goal.returns-in-QueryRefused
returns-in-QueryRefused c =
    subst (λ w. IsSaidIfMemory (said_if_any (said_of_query c.args.question.file.now c.args.question.query.now) (query_reply (Err w))) (reply_said c.refused.result)) (sym c.in-QueryRefused.is)
    (refused_query_says c.args.question.file.now c.args.question.query.now c.in-QueryRefused.error _ _ c.query_refusal.ensures c.refused.ensures)
