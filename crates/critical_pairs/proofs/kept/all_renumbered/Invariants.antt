use Rattle.std.proofs.Common.{◌≡◌, ◌++◌, flat_map, map, length}
use Rattle.std.specs.Vec.Iter.{into_iter_items, into_iter_len}
use Rattle.critical_pairs.specs.View.{overlap_view}
use Rattle.critical_pairs.specs.Kept.{renumbered}
use Rattle.critical_pairs.proofs.kept.all_renumbered.Given as goal

abbrev pub invariant-loop-overlap : goal.invariant-loop-overlap
invariant-loop-overlap l = record {
  made : map overlap_view l.kept.items ≡ flat_map (renumbered l.now) (map overlap_view l.yielded);
  many : into_iter_len l.overlap-iterator ≡ length (into_iter_items l.overlap-iterator);
  left : l.yielded ++ into_iter_items l.overlap-iterator ≡ l.fn.known.items;
}
