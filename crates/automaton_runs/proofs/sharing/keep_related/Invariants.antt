use Rattle.std.proofs.Common.{◌↔◌, ℕ, take}
use Rattle.rewriting.specs.Lists.{IsAmong}
use Rattle.number_sets.specs.Sets.{members}
use Rattle.automaton_runs.specs.Reached.{AreRelated}
use Rattle.automaton_runs.specs.Relations.{relations}
use Rattle.automaton_runs.proofs.sharing.keep_related.Given as goal

abbrev pub invariant-loop-place : goal.invariant-loop-place
invariant-loop-place l = (k : ℕ) → IsAmong k (members l.set) ↔ (IsAmong k (members l.fn.set) × AreRelated (take l.place (relations l.args)) (take l.place l.states) k)
