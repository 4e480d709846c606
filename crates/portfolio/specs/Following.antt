-- What a step makes of the numbers that rules had before all steps.
use Rattle.std.specs.Prelude.{ℕ, ◌-◌, List, set, Option, None}
use Rattle.std.specs.List.{remove}
use Rattle.certificates.specs.Certificates.{Simplification, dropped, inlined}

-- the rule of a step, by number
abbrev pub rule_of : Simplification → ℕ
rule_of (dropped i e) = i
rule_of (inlined i k) = i

-- the rule that goes is left out, and the one that changes has none
abbrev pub followed : Simplification → List (Option ℕ) → List (Option ℕ)
followed (dropped i e) os = remove os (i - 1)
followed (inlined i k) os = set os (i - 1) None
