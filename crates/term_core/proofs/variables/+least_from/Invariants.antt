use Rattle.std.proofs.Common.{◌≡◌, ◌≤◌, ℕ, drop, IfSome}
use Rattle.rewriting.specs.Variables.{occurrences_in}
use Rattle.term_core.specs.View.{views}
use Rattle.term_core.specs.Counting.{IsBelow}
use Rattle.term_core.proofs.variables.+least_from.Given as goal

abbrev pub invariant-loop-arg : goal.invariant-loop-arg
invariant-loop-arg l = record {
  least : IfSome l.least (λ y. l.bound ≤ y);
  before : (x : ℕ) → l.bound ≤ x → IsBelow x l.least → occurrences_in x (views l.arg-items) ≡ occurrences_in x (views (drop l.arg-index l.arg-items));
}
