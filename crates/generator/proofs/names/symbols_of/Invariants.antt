use Rattle.std.proofs.Common.{◌≡◌, []}
use Rattle.generated_systems.specs.Generated.{generated_names}
use Rattle.generator.proofs.names.symbols_of.Given as goal

abbrev pub invariant-symbols : goal.invariant-symbols
invariant-symbols l = record { symbols : l.names.symbols ≡ (generated_names l.k).symbols; variables : l.names.variables ≡ [] }
