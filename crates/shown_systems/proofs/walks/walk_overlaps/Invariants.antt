use Rattle.pair_search.specs.Grown.{IsGrown}
use Rattle.shown_systems.proofs.walks.walk_overlaps.Given as goal

abbrev pub invariant-overlaps : goal.invariant-overlaps
invariant-overlaps l = record {
  knows : IsGrown l.grown l.sys;
}
