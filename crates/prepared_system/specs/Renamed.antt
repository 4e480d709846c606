-- Rules with their variables renamed, and the rules of a system renamed apart.
use Rattle.std.specs.Prelude.{ℕ, ◌≡◌, ◌<◌, ◌+◌, ◌*◌, ◌^◌, true, List, map}
use Rattle.rewriting.specs.Terms as terms
use Rattle.rewriting.specs.Prelude.{Substitution, apply, occurs_in, even, odd, conditions_under}
use Rattle.rewriting.specs.Rules as math

-- a rule with its variables renamed
abbrev pub rule_under : Substitution → math.Rule → math.Rule
rule_under s r = record { left = apply s r.left; right = apply s r.right; conditions = conditions_under s r.conditions }

-- each variable k of the terms may be named 2k + add in 32 bits
abbrev pub HasRoom : ℕ → terms.Terms → Type 0
HasRoom add ts = (k : ℕ) → occurs_in k ts ≡ true → 2 * k + add < 2 ^ 32

-- the rules of a system as inner ones, with even numbers for their variables, and as outer ones, with odd numbers
abbrev pub inner_rules : math.System → List math.Rule
inner_rules sys = map (rule_under even) sys.rules

abbrev pub outer_rules : math.System → List math.Rule
outer_rules sys = map (rule_under odd) sys.rules
