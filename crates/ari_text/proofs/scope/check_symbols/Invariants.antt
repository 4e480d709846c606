use Rattle.std.proofs.Common.{drop}
use Rattle.ari_text.specs.Functions.{AreDeclared}
use Rattle.ari_text.proofs.scope.check_symbols.Given as goal

abbrev pub invariant-symbols : goal.invariant-symbols
invariant-symbols l = AreDeclared l.functions.symbols (drop l.n l.names.symbols) → AreDeclared l.functions.symbols l.names.symbols
