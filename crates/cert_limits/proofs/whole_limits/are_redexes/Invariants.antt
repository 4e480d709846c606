use Rattle.cert_limits.proofs.Prelude.{drop, map, ◌↔◌, redex_view, AreRedexEntries}
use Rattle.cert_limits.proofs.whole_limits.are_redexes.Given as goal

abbrev pub invariant-redexes : goal.invariant-redexes
invariant-redexes l = AreRedexEntries l.names (map redex_view l.redexes) ↔ AreRedexEntries l.names (map redex_view (drop l.redex-index l.redexes))
