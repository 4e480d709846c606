use Rattle.std.proofs.Common.{map}
use Rattle.term_core.specs.View.{view}
use Rattle.automaton_runs.specs.Arrivals.{arrival_view, AreFrontArrivals}
use Rattle.automaton_runs.proofs.runs.put_all.Given as goal

abbrev pub invariant-loop-front : goal.invariant-loop-front
invariant-loop-front l = AreFrontArrivals l.index (view l.t) l.choices l.front-index (map arrival_view l.rows.items)
