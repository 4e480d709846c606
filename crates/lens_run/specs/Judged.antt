-- The page of a certificate that is judged.
use Rattle.std.specs.Prelude.{◌≡◌, ◌⊎◌, ◌++◌, ℕ, List, codes}
use Rattle.rewriting.specs.Rules.{System}
use Rattle.certificates.specs.Prelude.{Certificate, Rejection}
use Rattle.valid_certificates.specs.Certificates.{IsValid, IsRejected}
use Rattle.cert_check.specs.Kinds.{verdict_of}
use Rattle.cert_check.specs.declared.Verdict.{Verdict}
use Rattle.cert_check.specs.declared.Verdict.TheVariants.{Yes, No}

-- what a valid certificate shows
abbrev pub verdict_line : Verdict → List ℕ
verdict_line Yes = codes "This certificate is valid: YES.\n\n"
verdict_line No = codes "This certificate is valid: NO.\n\n"

abbrev pub rejected_line : List ℕ
rejected_line = codes "This certificate is not valid.\n\n"

abbrev pub BeginsWith : List ℕ → List ℕ → Type 0
BeginsWith front page = (rest : List ℕ) × (page ≡ front ++ rest)

-- the certificate is valid, and what it shows stands above all; or it is not, and that does
abbrev pub IsJudgedPage : System → Certificate → List ℕ → Type 0
IsJudgedPage sys c page =
    ((verdict : Verdict) × (verdict ≡ verdict_of c) × IsValid sys c × BeginsWith (verdict_line verdict) page)
    ⊎ ((reason : Rejection) × IsRejected sys c reason × BeginsWith rejected_line page)
