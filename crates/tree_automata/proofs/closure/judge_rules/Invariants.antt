use Rattle.std.proofs.Common.{◌≡◌, ℕ, ◌<◌, Some, slice_get}
use Rattle.rewriting.specs.Rules.{Rule}
use Rattle.tree_automata.specs.Open.{IsRuleClosed}
use Rattle.tree_automata.proofs.closure.judge_rules.Given as goal

abbrev pub invariant-rules : goal.invariant-rules
invariant-rules l = record {
  counted : l.number ≡ l.rule-index;
  closed : (k : ℕ) (r : Rule) → k < l.rule-index → slice_get l.sys.rules k ≡ Some r → IsRuleClosed l.index r;
}
