use Rattle.cert_limits.proofs.Prelude.{drop, ◌↔◌, views, AreSpelt}
use Rattle.cert_limits.proofs.term_limits.+is_spelt.Given as goal

abbrev pub invariant-are_spelt-arguments : goal.invariant-are_spelt-arguments
invariant-are_spelt-arguments l = AreSpelt l.names (views l.args) ↔ AreSpelt l.names (views (drop l.arg-index l.args))
