use Rattle.std.proofs.Common.{◌≡◌, ℕ, ◌<◌, Some, slice_get}
use Rattle.rewriting.specs.Rules.{Rule}
use Rattle.automata.specs.Closed.{IsWide}
use Rattle.cert_model.specs.EvidenceView.{automaton_view}
use Rattle.tree_automata.proofs.width.judge_widths.Given as goal

abbrev pub invariant-rules : goal.invariant-rules
invariant-rules l = record {
  counted : l.number ≡ l.rule-index;
  narrow : (k : ℕ) (r : Rule) → k < l.rule-index → slice_get l.sys.rules k ≡ Some r → IsWide (automaton_view l.a) r.left → ⊥;
}
