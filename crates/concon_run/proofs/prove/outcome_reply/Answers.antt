use Rattle.std.proofs.Common.{sym, subst}
use Rattle.concon_run.specs.Prove.{said_of_search}
use Rattle.concon_run.specs.Proving.{outcome_of}
use Rattle.concon_run.specs.Replies.{reply_said}
use Rattle.concon_run.specs.Said.{IsSaidIfMemory}
use Rattle.concon_run.proofs.prove.outcome_reply.Goals as goal

pub returns-in-Found : goal.returns-in-Found
returns-in-Found c = λ file.
    subst (λ o. IsSaidIfMemory (said_of_search file (outcome_of c.args.names.now o)) (reply_said c.found_reply.result)) (sym c.in-Found.is) (c.found_reply.ensures file)
