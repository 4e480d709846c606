use Rattle.std.proofs.Common.{◌≤◌, take, length}
use Rattle.pair_search.specs.Answers.{HasFirst}
use Rattle.pair_search.specs.Grown.{IsGrown}
use Rattle.pair_search.proofs.Walking.{IsSoFar}
use Rattle.pair_search.proofs.entries.entries_for.Given as goal

abbrev pub invariant-rows : goal.invariant-rows
invariant-rows g l = record {
  within : l.overlap-index ≤ length l.overlaps;
  far : IsSoFar (HasFirst (g.T.OverlapTrial.first l.sys)) (take l.overlap-index l.overlaps) l.fn.budget l.budget l.entries.items;
  knows : IsGrown l.grown l.sys;
}
