-- What a change makes of a system.
use Rattle.std.specs.Prelude.{◌≡◌, ◌<◌, List, [], ◌∷◌, length, Option, None, Some}
use Rattle.rewriting.specs.Rules as math
use Rattle.rewriting.specs.Systems.{rule_variables, IsSystem}
use Rattle.term_core.specs.RuleView.{rule_view}
use Rattle.term_core.specs.declared.systems.Rule.{Rule}
use Rattle.simplifications.specs.Simplifying.{with_in_place}
use Rattle.simplify.specs.declared.changes.Change.{Change}

-- what comes in place of a rule: nothing, or a rule
abbrev pub new_rules : Option Rule → List math.Rule
new_rules None = []
new_rules (Some r) = rule_view r ∷ []

abbrev pub after : math.System → Change → math.System
after sys c = with_in_place sys c.place (new_rules c.rule)

-- a rule that comes tells the number of its variables
abbrev pub IsCounted : Option Rule → Type 0
IsCounted None = Unit {0}
IsCounted (Some r) = r.vars ≡ length (rule_variables (rule_view r))

-- a rule stands there, and what the change makes of the system is one
pub record IsChangeOf (sys : math.System) (c : Change) : Type 0 where
  pub inside : c.place < length sys.rules
  pub system : IsSystem (after sys c)
  pub counted : IsCounted c.rule
