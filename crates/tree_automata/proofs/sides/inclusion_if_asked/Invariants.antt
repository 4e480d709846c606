use Rattle.std.proofs.Common.{◌≡◌, ℕ, ◌<◌, Some, slice_get}
use Rattle.rewriting.specs.Rules.{Rule}
use Rattle.tree_automata.specs.Kept.{IsVariable}
use Rattle.tree_automata.proofs.sides.inclusion_if_asked.Given as goal

abbrev pub invariant-loop-rule : goal.invariant-loop-rule
invariant-loop-rule l = (k : ℕ) (r : Rule) → k < l.rule-index → slice_get l.sys.rules k ≡ Some r → IsVariable r.right → ⊥
