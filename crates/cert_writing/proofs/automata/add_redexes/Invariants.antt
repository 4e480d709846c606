use Rattle.cert_writing.proofs.Prelude.{◌≡◌, ◌++◌, map, drop, redex_view, used_by_redexes, seen}
use Rattle.cert_writing.proofs.automata.add_redexes.Given as goal

abbrev pub invariant-redexes : goal.invariant-redexes
invariant-redexes l = seen l.automata.items ++ used_by_redexes (map redex_view (drop l.redex-index l.redexes)) ≡ seen l.fn.automata.items ++ used_by_redexes (map redex_view l.redexes)
