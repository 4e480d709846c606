use Rattle.std.proofs.Common.{Err, sym, subst}
use Rattle.concon_run.specs.Prove.{said_of_prove}
use Rattle.concon_run.specs.Proving.{prove_answer}
use Rattle.concon_run.specs.Replies.{reply_said, said_if_any}
use Rattle.concon_run.specs.Said.{IsSaidIfMemory}
use Rattle.concon_run.proofs.Searches.{no_system_says}
use Rattle.concon_run.proofs.prove.no_outcome_reply.Goals as goal

pub returns-in-NoSystem : goal.returns-in-NoSystem
returns-in-NoSystem c =
    subst (λ w. IsSaidIfMemory (said_if_any (said_of_prove c.args.prove.file.now) (prove_answer (Err w))) (reply_said c.no_system_reply.result)) (sym c.in-NoSystem.is)
    (no_system_says c.args.prove.file.now c.in-NoSystem.error (reply_said c.no_system_reply.result) c.no_system_reply.ensures)
