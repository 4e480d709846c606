use Rattle.critical_pairs.specs.View.{overlap_view}
use Rattle.pair_search.proofs.Walking.{among_here}
use Rattle.shown_systems.proofs.shown_overlaps.put_overlaps.Goals as goal

pub put_overlap-requires : goal.put_overlap-requires
put_overlap-requires c = record {
  overlap = (c.requires.overlaps.are.each (overlap_view c.index-overlaps-place.result)
      (among_here c.args.overlaps.now c.overlaps.place c.index-overlaps-place.result c.overlaps-test.true c.index-overlaps-place.is)).0;
}
