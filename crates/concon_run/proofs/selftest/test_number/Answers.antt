use Rattle.concon_run.proofs.Tests.{other_test}
use Rattle.concon_run.proofs.selftest.test_number.Goals as goal

pub returns-then-n-gt-MOST_GENERATED : goal.returns-then-n-gt-MOST_GENERATED
returns-then-n-gt-MOST_GENERATED c = other_test c.args.word.now c.in_ok-n.n c.in_ok-n.ensures c.if-n-gt-MOST_GENERATED.either
