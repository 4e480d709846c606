-- A derivation from a term has one outcome.
use Rattle.std.specs.Prelude.{◌≡◌, List}
use Rattle.rewriting.specs.Prelude.{Term, Condition, System}
use Rattle.certificates.specs.Prelude.{Derivation, Derives, IsFirstBad, BadStep}

-- it has at most one end
abbrev pub EndsAreUnique : Type 0
EndsAreUnique = (sys : System) (hyps : List Condition) (t : Term) (d : Derivation) (u v : Term) → Derives sys hyps t d u → Derives sys hyps t d v → u ≡ v

-- it has no end beside a bad step
abbrev pub BadStepsHaveNoEnd : Type 0
BadStepsHaveNoEnd = (sys : System) (hyps : List Condition) (t : Term) (d : Derivation) (u : Term) (bad : BadStep) → Derives sys hyps t d u → IsFirstBad sys hyps t d bad → ⊥

-- it has at most one first bad step
abbrev pub FirstBadStepsAreUnique : Type 0
FirstBadStepsAreUnique =
    (sys : System) (hyps : List Condition) (t : Term) (d : Derivation) (bad other : BadStep) → IsFirstBad sys hyps t d bad → IsFirstBad sys hyps t d other → bad ≡ other
