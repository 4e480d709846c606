-- A walk that has made the first of the standard steps.
use Rattle.std.specs.Prelude.{ℕ, ◌≡◌, ◌+◌, List, [], ◌∷◌}
use Rattle.rewriting.specs.Rules.{System}
use Rattle.first_found.specs.Items.{IsFirst, one}
use Rattle.certificates.specs.Certificates.{Simplification}
use Rattle.simplified_spaces.specs.Tries.{GivesStep, tries, all_tries}

-- the first steps lead from the system to this one; w is the number of tries of the systems before it, of which n were paid
abbrev pub LeadsOn : System → List Simplification → System → ℕ → ℕ → Type 0
LeadsOn sys [] here w n = (here ≡ sys) × (w ≡ 0) × (n ≡ 0)
LeadsOn sys (s ∷ ss) here w n =
    (next : System) × (paid : ℕ) × (v : ℕ) × (m : ℕ) × IsFirst one (GivesStep sys) (tries sys) (s, next) paid × LeadsOn next ss here v m
    × (w ≡ all_tries sys + v) × (n ≡ paid + m)
