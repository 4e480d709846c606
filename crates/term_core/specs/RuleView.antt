-- The rules that `Rule` and `Cond` stand for.
use Rattle.std.specs.Prelude.{◌≡◌, ℕ, List, [], ◌∷◌, map, length}
use Rattle.rewriting.specs.Rules as math
use Rattle.rewriting.specs.Systems.{rule_variables}
use Rattle.term_core.specs.View.{view}
use Rattle.term_core.specs.declared.systems.Cond.{Cond}
use Rattle.term_core.specs.declared.systems.Rule.{Rule}

abbrev pub condition_view : Cond → math.Condition
condition_view c = record { left = view c.left; right = view c.right }

abbrev pub rule_view : Rule → math.Rule
rule_view r = record { left = view r.left; right = view r.right; conditions = map condition_view r.conds.items }

abbrev pub vars_of : Rule → ℕ
vars_of r = r.vars

-- each rule tells the number of its variables
abbrev pub AreCounted : List Rule → Type 0
AreCounted [] = Unit {0}
AreCounted (r ∷ rs) = (r.vars ≡ length (rule_variables (rule_view r))) × AreCounted rs
