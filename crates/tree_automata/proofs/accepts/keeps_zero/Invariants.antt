use Rattle.std.proofs.Common.{◌≡◌, take, replicate}
use Rattle.certificates.specs.Evidence.{Transition}
use Rattle.rewriting.specs.Lists.{IsAmong}
use Rattle.automaton_runs.specs.Indexed.{pointed}
use Rattle.tree_automata.proofs.accepts.keeps_zero.Given as goal

abbrev pub invariant-loop-transition : goal.invariant-loop-transition
invariant-loop-transition l = (t : Transition) → IsAmong t (pointed (take l.transition-index l.transition-items)) → t.arguments ≡ replicate l.arity 0 → t.target ≡ 0 → ⊥
