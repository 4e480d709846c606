-- The standard steps of a system: again and again the first try that gives a good step, until none does.
use Rattle.std.specs.Prelude.{ℕ, ◌≡◌, ◌+◌, List, [], ◌∷◌}
use Rattle.rewriting.specs.Rules.{System}
use Rattle.first_found.specs.Items.{NoneGives, IsFirst, one}
use Rattle.certificates.specs.Certificates.{Simplification}
use Rattle.simplified_spaces.specs.Tries.{GivesStep, tries, all_tries}

-- these steps lead to the last system; w is the number of tries of all systems met, the last one too
abbrev pub AreStandard : System → List Simplification → System → ℕ → Type 0
AreStandard sys [] last w = NoneGives (GivesStep sys) (tries sys) × (last ≡ sys) × (w ≡ all_tries sys)
AreStandard sys (s ∷ ss) last w =
    (next : System) × (paid : ℕ) × (rest : ℕ) × IsFirst one (GivesStep sys) (tries sys) (s, next) paid × AreStandard next ss last rest × (w ≡ all_tries sys + rest)

-- steps, and the system that they leave
pub record Simplified : Type 0 where
  pub steps : List Simplification
  pub last : System

abbrev pub IsStandard : System → Simplified → ℕ → Type 0
IsStandard sys x w = AreStandard sys x.steps x.last w
