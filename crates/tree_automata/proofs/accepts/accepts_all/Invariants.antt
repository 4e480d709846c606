use Rattle.std.proofs.Common.{◌≡◌, ℕ, ◌<◌, Some, slice_get, replicate}
use Rattle.automaton_runs.specs.Counted.{Finds}
use Rattle.tree_automata.proofs.accepts.accepts_all.Given as goal

abbrev pub invariant-loop-f : goal.invariant-loop-f
invariant-loop-f l = (g n : ℕ) → g < l.f → slice_get l.sys.arities g ≡ Some n → Finds l.index (Some g) (replicate n 0) 0
