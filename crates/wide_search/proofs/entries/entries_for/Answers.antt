use Rattle.critical_pairs.specs.View.{overlap_view}
use Rattle.pair_search.proofs.Walking.{among_here}
use Rattle.wide_search.proofs.entries.entries_for.Goals as goal

pub try_widely-requires-clause-overlap : goal.try_widely-requires-clause-overlap
try_widely-requires-clause-overlap c = c.requires.overlaps (overlap_view c.overlap-item.result)
    (among_here c.args.overlaps.now c.rows.overlap-index c.overlap-item.result c.rows-test.true c.overlap-item.is)
