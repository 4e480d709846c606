use Rattle.concon_run.specs.Replies.{reply_said}
use Rattle.concon_run.proofs.Tests.{passed_said}
use Rattle.concon_run.proofs.selftest.selftest_reply.Goals as goal

pub returns-in-Ok : goal.returns-in-Ok
returns-in-Ok c = passed_said c.args.n c.in-Ok.tested (reply_said c.tested_reply.result) c.in-Ok.ensures c.tested_reply.ensures
