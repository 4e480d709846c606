use Rattle.cert_writing.proofs.Prelude.{◌≡◌, ◌++◌, map, drop, pair_entry_view, used_by_pairs, seen}
use Rattle.cert_writing.proofs.automata.add_pairs.Given as goal

abbrev pub invariant-pairs : goal.invariant-pairs
invariant-pairs l = seen l.automata.items ++ used_by_pairs (map pair_entry_view (drop l.pair-index l.pairs)) ≡ seen l.fn.automata.items ++ used_by_pairs (map pair_entry_view l.pairs)
