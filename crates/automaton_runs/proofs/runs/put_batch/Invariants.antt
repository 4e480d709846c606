use Rattle.std.proofs.Common.{map}
use Rattle.term_core.specs.View.{view}
use Rattle.automaton_runs.specs.Arrivals.{arrival_view, HaveBatchArrivals}
use Rattle.automaton_runs.proofs.runs.put_batch.Given as goal

abbrev pub invariant-loop-k : goal.invariant-loop-k
invariant-loop-k l = HaveBatchArrivals l.index (view l.t) l.batch l.k (map arrival_view l.fn.rows.items) (map arrival_view l.rows.items)
