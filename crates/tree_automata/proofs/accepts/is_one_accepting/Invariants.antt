use Rattle.std.proofs.Common.{◌<◌, ℕ, take}
use Rattle.rewriting.specs.Lists.{IsAmong}
use Rattle.number_sets.specs.Relation.{Relates}
use Rattle.tree_automata.proofs.accepts.is_one_accepting.Given as goal

abbrev pub invariant-loop-q : goal.invariant-loop-q
invariant-loop-q l = (q k : ℕ) → IsAmong q (take l.q-index l.q-items) → q < l.a.states → Relates l.reached q k → ⊥
