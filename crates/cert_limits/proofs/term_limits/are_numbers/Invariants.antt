use Rattle.cert_limits.proofs.Prelude.{drop, ◌↔◌, largest, AreAtMost}
use Rattle.cert_limits.proofs.term_limits.are_numbers.Given as goal

abbrev pub invariant-numbers : goal.invariant-numbers
invariant-numbers l = AreAtMost largest l.numbers ↔ AreAtMost largest (drop l.number-index l.numbers)
