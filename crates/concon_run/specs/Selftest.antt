-- The command selftest: its words, its answer, and what it counts for that.
use Rattle.std.specs.Prelude.{◌≡◌, ◌≤◌, ◌*◌, ◌++◌, ℕ, List, [], ◌∷◌, length, codes, decimal}
use Rattle.generated_systems.specs.declared.TheConstants.{MOST_GENERATED}
use Rattle.certificates.specs.Certificates.{Certificate, ortho_certificate, quasi_certificate, peak_certificate, simplified_certificate}
use Rattle.cert_check.specs.declared.Verdict.TheVariants.{Yes}
use Rattle.concon_run.specs.Run.{Run}
use Rattle.concon_run.specs.Said.{Said, TellsIfMemory}
use Rattle.concon_run.specs.Verdicts.{verdict_word}
use Rattle.concon_run.specs.declared.selftest.Tested.{Tested}
use Rattle.concon_run.specs.declared.status.Status.TheVariants as status

-- the words ask for the test with this number, which stands in decimal, without a sign and without zeros in front
abbrev pub IsSelftest : List (List ℕ) → ℕ → Type 0
IsSelftest words n = (number : List ℕ) × (words ≡ codes "selftest" ∷ number ∷ []) × (number ≡ decimal n) × (1 ≤ n) × (n ≤ MOST_GENERATED)

-- for the generated system number n 4n rules are read, and n pairs of the certificate, which 3n units find
abbrev pub selftest_line : ℕ → List ℕ
selftest_line n =
    codes "selftest " ++ (decimal n ++ (codes " rules " ++ (decimal (4 * n) ++ (codes " pairs " ++ (decimal n ++ (codes " answer YES steps " ++ (decimal (3 * n) ++ codes "\n")))))))

-- the generated system was written and read, and so was the certificate that was found for it
abbrev pub said_of_test : ℕ → Said
said_of_test n = record { status = status.Yes; out = selftest_line n; err = [] }

-- where the words ask for a test, this is told, unless memory was refused
abbrev pub TestIsExact : Run → Type 0
TestIsExact run = (n : ℕ) → IsSelftest run.words n → TellsIfMemory run (said_of_test n)

-- the entries for overlaps
abbrev pub pair_count : Certificate → ℕ
pair_count (ortho_certificate pairs) = length pairs
pair_count (quasi_certificate measure pairs) = length pairs
pair_count (peak_certificate peak) = 0
pair_count (simplified_certificate steps c) = 0

-- the line of the test with this number
abbrev pub tested_line : ℕ → Tested → List ℕ
tested_line n t =
    codes "selftest "
    ++ (decimal n ++ (codes " rules " ++ (decimal t.rules
    ++ (codes " pairs " ++ (decimal t.pairs ++ (codes " answer " ++ (verdict_word t.verdict ++ (codes " steps " ++ (decimal t.steps ++ codes "\n")))))))))

-- what the test with this number has to count
pub record IsPassed (n : ℕ) (t : Tested) : Type 0 where
  pub rules : t.rules ≡ 4 * n
  pub pairs : t.pairs ≡ n
  pub verdict : t.verdict ≡ Yes
  pub steps : t.steps ≡ 3 * n
