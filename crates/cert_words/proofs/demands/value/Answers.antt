use Rattle.cert_words.proofs.Judging.{value_passes, value_starts}
use Rattle.cert_words.proofs.demands.value.Goals as goal

pub digits-init : goal.digits-init
digits-init c = value_starts c.args.digits.now

pub returns-then-value-gt-LARGEST : goal.returns-then-value-gt-LARGEST
returns-then-value-gt-LARGEST c = value_passes c.args.digits.now c.digits.b-index c.digits.value c.digits.invariant c.digits-test.true (rw c.saturating_sub.ensures at c.if-value-gt-LARGEST.true)
