use Rattle.std.proofs.Common.{◌≡◌, drop}
use Rattle.std.specs.FinMap.{empty}
use Rattle.query_search.specs.Choices as choices
use Rattle.query_search.proofs.choices.chosen.Given as goal

abbrev pub invariant-vars : goal.invariant-vars
invariant-vars l =
    choices.chosen (choices.constants_of l.constants) l.values (drop l.i l.vars) (drop l.i l.turns.numbers.items) ≡ choices.chosen (choices.constants_of l.constants) empty l.vars l.turns.numbers.items
