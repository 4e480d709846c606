-- What searches answer.
use Rattle.std.specs.Prelude.{ℕ, ◌≡◌, Result, Ok, Err}
use Rattle.certificates.specs.Certificates as math
use Rattle.cops_names.specs.NameTable.{NameTable}
use Rattle.cert_model.specs.CertificateView.{certificate_view}
use Rattle.cc_count.specs.Counts.{Counts, Spends}
use Rattle.term_core.specs.declared.terms.NoMemory.{NoMemory}
use Rattle.validity.specs.declared.Search.{Search}
use Rattle.validity.specs.declared.Search.TheVariants.{Found, Nothing, Spent}
use Rattle.first_found.specs.Spaces.{Ending, found, nothing, spent}
use Rattle.search_spaces.specs.Texts.{HasText}

abbrev pub ending_of : Search → Ending math.Certificate
ending_of (Found c) = found (certificate_view c)
ending_of Nothing = nothing
ending_of Spent = spent

-- a search by what it paid, with the way it may end then; `view` says how an answer ends it
abbrev pub Searches : {A C : Type 0} → (A → Ending C) → (ℕ → ℕ → Ending C → Type 0) → Counts → Counts → Result A NoMemory → Type 0
Searches view MayEndSo before after (Ok answer) = (n : ℕ) × Spends before n after × MayEndSo before.left n (view answer)
Searches view MayEndSo before after (Err e) = Unit {0}

-- what is said of that with which a search ended
abbrev pub IfEndsFound : {C : Type 0} → (C → Type 0) → Ending C → Type 0
IfEndsFound P (found c) = P c
IfEndsFound P nothing = Unit {0}
IfEndsFound P spent = Unit {0}

abbrev pub IfEndsNothing : {C : Type 0} → Type 0 → Ending C → Type 0
IfEndsNothing P (found c) = Unit {0}
IfEndsNothing P nothing = P
IfEndsNothing P spent = Unit {0}

-- what is said of a certificate that was found
abbrev pub IfFound : {A C : Type 0} → (A → Ending C) → Result A NoMemory → (C → Type 0) → Type 0
IfFound view (Ok answer) P = IfEndsFound P (view answer)
IfFound view (Err e) P = Unit {0}

-- what is said of a search that found nothing
abbrev pub IfNothing : {A C : Type 0} → (A → Ending C) → Result A NoMemory → Type 0 → Type 0
IfNothing view (Ok answer) P = IfEndsNothing P (view answer)
IfNothing view (Err e) P = Unit {0}

-- the certificate, where it has a text
abbrev pub WrittenAnswers : NameTable → math.Certificate → Result Search NoMemory → Type 0
WrittenAnswers names c (Ok (Found d)) = (certificate_view d ≡ c) × HasText names c
WrittenAnswers names c (Ok Nothing) = HasText names c → ⊥
WrittenAnswers names c (Ok Spent) = ⊥
WrittenAnswers names c (Err e) = Unit {0}
