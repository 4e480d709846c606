use Rattle.critical_pairs.specs.View.{overlap_view}
use Rattle.pair_search.proofs.Walking.{among_here}
use Rattle.shown_systems.proofs.walks.walk_overlaps.Goals as goal

pub try_overlap-requires : goal.try_overlap-requires
try_overlap-requires c = record {
  overlap = (c.requires.overlaps.are.each (overlap_view c.index-overlaps-before.result)
      (among_here c.args.overlaps.now c.overlaps.before c.index-overlaps-before.result c.overlaps-test.true c.index-overlaps-before.is)).0;
  knows = c.overlaps.invariant.knows;
}
