use Rattle.cert_limits.proofs.Prelude.{drop, map, ◌↔◌, head_view, AreHeads}
use Rattle.cert_limits.proofs.whole_limits.are_heads.Given as goal

abbrev pub invariant-heads : goal.invariant-heads
invariant-heads l = AreHeads l.names (map head_view l.heads) ↔ AreHeads l.names (map head_view (drop l.head-index l.heads))
