use Rattle.run_parts.proofs.Numbers.{no_number, large_number, other_number}
use Rattle.run_parts.proofs.words.budget_of.Goals as goal

pub returns-in_default : goal.returns-in_default
returns-in_default c = no_number c.args.word.now c.parse.result c.parse.ensures.value.0 _ c.in_default.is

pub returns-then-n-gt-MOST_UNITS : goal.returns-then-n-gt-MOST_UNITS
returns-then-n-gt-MOST_UNITS c = large_number c.args.word.now c.parse.result c.parse.ensures.value.0 c.in-Ok.n c.in-Ok.is c.if-n-gt-MOST_UNITS.true

pub returns-else-eq : goal.returns-else-eq
returns-else-eq c = other_number c.args.word.now c.parse.result c.parse.ensures.value.0 c.in-Ok.n c.format.result.now c.in-Ok.is c.format.ensures.text c.if-eq.ensures
