use Rattle.std.proofs.Common.{ℕ, ◌≤◌, ◌≡◌, Some}
use Rattle.rewriting.specs.Rules as rules
use Rattle.rewriting.specs.Rules.{rule_at}
use Rattle.cert_model.specs.ReasonView.{class_view}
use Rattle.certificates.specs.Blames.{IsInClass}
use Rattle.ctrs_classes.proofs.classes.why_not.Given as goal

abbrev pub invariant-loop-i : goal.invariant-loop-i
invariant-loop-i l = (k : ℕ) (r : rules.Rule) → k ≤ l.i → rule_at l.sys k ≡ Some r → IsInClass l.sys (class_view l.class) r
