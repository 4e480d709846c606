use Rattle.cert_reading.proofs.Lemmas.{then_where}
use Rattle.cert_reading.proofs.Prelude.{version_by}
use Rattle.cert_reading.proofs.measures.measure.Goals as goal

pub returns-then-measure_line-clause-read : goal.returns-then-measure_line-clause-read
returns-then-measure_line-clause-read c =
    rw (c.measure_line.ensures.second c.if-measure_line.true) (then_where (c.measure_line.ensures.order c.if-measure_line.true c.args.names.now) c.precedence-order.ensures.read)

pub returns-clause-read : goal.returns-clause-read
returns-clause-read c = then_where (c.measure_line.ensures.linear c.if-measure_line.false c.args.names.now) (c.entries-entries.ensures.read (version_by c.args.uses))
