use Rattle.std.proofs.Common.{◌≡◌}
use Rattle.std.specs.Prelude.{flat_map}
use Rattle.std.specs.List.{range_with_len}
use Rattle.generated_systems.specs.Generated.{generated_names, variables_for}
use Rattle.generator.proofs.names.names_of.Given as goal

abbrev pub invariant-variables : goal.invariant-variables
invariant-variables l = record { symbols : l.names.symbols ≡ (generated_names l.n).symbols; variables : l.names.variables ≡ flat_map variables_for (range_with_len 0 l.counter) }
