use Rattle.std.proofs.Common.{◌≡◌, ◌↔◌, ℕ, true, take}
use Rattle.rewriting.specs.Lists.{IsAmong}
use Rattle.number_sets.specs.Sets.{members}
use Rattle.automaton_runs.specs.Indexed.{pointed}
use Rattle.automaton_runs.specs.Pools.{stands_in}
use Rattle.automaton_runs.proofs.pools.states_at.Given as goal

abbrev pub invariant-loop-transition : goal.invariant-loop-transition
invariant-loop-transition l = (q : ℕ) → IsAmong q (members l.set) ↔ (stands_in l.place q (pointed (take l.transition-index l.transition-items)) ≡ true)
