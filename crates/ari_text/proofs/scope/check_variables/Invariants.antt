use Rattle.std.proofs.Common.{drop}
use Rattle.cops_syntax.specs.View.{names_view}
use Rattle.ari_text.specs.Functions.{AreUndeclared}
use Rattle.ari_text.proofs.scope.check_variables.Given as goal

abbrev pub invariant-variables : goal.invariant-variables
invariant-variables l = AreUndeclared l.functions.symbols (names_view (drop l.i l.variables)) → AreUndeclared l.functions.symbols (names_view l.variables)
