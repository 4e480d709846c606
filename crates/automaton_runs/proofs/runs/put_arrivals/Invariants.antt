use Rattle.std.proofs.Common.{◌≡◌, ◌++◌, map, take}
use Rattle.automaton_runs.specs.Arrivals.{arrival_view}
use Rattle.automaton_runs.proofs.runs.put_arrivals.Given as goal

abbrev pub invariant-loop-state : goal.invariant-loop-state
invariant-loop-state l = map arrival_view l.rows.items ≡ map arrival_view l.fn.rows.items ++ map (λ q. (l.choice, q)) (take l.state-index l.states)
