use Rattle.pair_search.specs.Grown.{IsGrown}
use Rattle.wide_search.proofs.entries.entries_for.Given as goal

abbrev pub invariant-rows : goal.invariant-rows
invariant-rows l = IsGrown l.grown l.sys
