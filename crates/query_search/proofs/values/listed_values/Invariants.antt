use Rattle.std.proofs.Common.{◌≡◌, map}
use Rattle.std.specs.List.{range_with_len}
use Rattle.rewriting.specs.Substitutions.{values_of}
use Rattle.term_core.specs.View.{view}
use Rattle.query_search.proofs.values.listed_values.Given as goal

abbrev pub invariant-numbers : goal.invariant-numbers
invariant-numbers l = map view l.out.items ≡ map (values_of l.values) (range_with_len 0 l.x)
