-- What is said of a wider search for a certificate.
use Rattle.std.specs.Prelude.{◌≡◌, ◌⊎◌, ℕ, List, codes}
use Rattle.rewriting.specs.Rules.{System}
use Rattle.certificates.specs.Certificates.{Certificate}
use Rattle.valid_certificates.specs.Certificates.{IsValid}
use Rattle.cops_names.specs.NameTable.{NameTable}
use Rattle.run_parts.specs.Answers.{proof_text}
use Rattle.lens_run.specs.Said.{Said, page_said, nothing_said}

-- nothing was found, or units were lacking
abbrev pub nothing_text : List ℕ
nothing_text = codes "MAYBE: nothing was found\n"

abbrev pub cut_text : List ℕ
cut_text = codes "MAYBE: nothing was found with so many units\n"

-- a page with a valid certificate below what it shows; or, with another status, that none was found
abbrev pub IsSoughtSaid : System → NameTable → Said → Type 0
IsSoughtSaid sys names said =
    ((c : Certificate) × IsValid sys c × (said ≡ page_said (proof_text names c))) ⊎ ((said ≡ nothing_said nothing_text) ⊎ (said ≡ nothing_said cut_text))
