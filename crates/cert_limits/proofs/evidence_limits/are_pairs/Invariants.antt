use Rattle.cert_limits.proofs.Prelude.{drop, map, ◌↔◌, pair_entry_view, ArePairs}
use Rattle.cert_limits.proofs.evidence_limits.are_pairs.Given as goal

abbrev pub invariant-pairs : goal.invariant-pairs
invariant-pairs l = ArePairs l.names (map pair_entry_view l.pairs) ↔ ArePairs l.names (map pair_entry_view (drop l.pair-index l.pairs))
