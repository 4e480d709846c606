-- A condition that only names a term, and a rule without it.
use Rattle.std.specs.Prelude.{ℕ, suc, ◌≡◌, false, ◌++◌, map, take, drop}
use Rattle.rewriting.specs.Prelude.{Term, var, Substitution, apply, occurs, occurs_in, Condition, Rule, right_sides, sides, rule_variables, conditions_under, index_in, replacing}

-- the condition, behind n others of the rule, names its left side: its right side is a variable x that is not in the rule's
-- left side, not in its own left side, in no condition before it and in no right side of one behind it
pub record Names (r : Rule) (n : ℕ) (c : Condition) (x : ℕ) : Type 0 where
  pub variable : c.right ≡ var x
  pub not_in_left : occurs x r.left ≡ false
  pub not_in_own : occurs x c.left ≡ false
  pub not_before : occurs_in x (sides (take n r.conditions)) ≡ false
  pub not_asked_behind : occurs_in x (right_sides (drop (suc n) r.conditions)) ≡ false

-- a condition with its left side changed
abbrev pub left_under : Substitution → Condition → Condition
left_under s c = record { left = apply s c.left; right = c.right }

-- the rule without the condition behind the first n, and s for x in its right side and in the left sides of the conditions behind
abbrev pub inlined_rule : Rule → ℕ → Term → ℕ → Rule
inlined_rule r n s x =
    record {
      left = r.left;
      right = apply (replacing x s) r.right;
      conditions = take n r.conditions ++ map (left_under (replacing x s)) (drop (suc n) r.conditions);
    }

-- the variables of a rule numbered anew, 0, 1, .. by first occurrence
abbrev pub numbering_of : Rule → Substitution
numbering_of r = λ x. var (index_in (rule_variables r) x)

abbrev pub rule_under : Substitution → Rule → Rule
rule_under s r = record { left = apply s r.left; right = apply s r.right; conditions = conditions_under s r.conditions }

abbrev pub numbered : Rule → Rule
numbered r = rule_under (numbering_of r) r
