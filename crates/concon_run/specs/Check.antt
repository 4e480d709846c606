-- The command check: its words, what it may answer and why, the texts of that, and what each answer means.
use Rattle.std.specs.Prelude.{◌≡◌, ◌⊎◌, ℕ, List, [], ◌∷◌, Option, Some, None, codes}
use Rattle.rewriting.specs.Rules.{System}
use Rattle.certificates.specs.Prelude.{Certificate, ortho_certificate, quasi_certificate, peak_certificate, simplified_certificate, Rejection, simplification_fails}
use Rattle.valid_certificates.specs.Certificates.{IsValid, IsRejected}
use Rattle.valid_certificates.specs.CarriedBack.{IsPeakApart}
use Rattle.cert_check.specs.Kinds.{verdict_of}
use Rattle.cert_check.specs.declared.Verdict.{Verdict}
use Rattle.cert_check.specs.declared.Verdict.TheVariants as verdict
use Rattle.cops_names.specs.NameTable.{NameTable}
use Rattle.run_parts.specs.Bytes.{Bytes, bytes_of, told_bytes, SpellsSystem, SpellsCertificate}
use Rattle.run_parts.specs.Devices.{ShelfRun, HasFailed, BeginsAtMost}
use Rattle.run_parts.specs.Answers.{verdict_text}
use Rattle.concon_run.specs.Rejections.{rejected_line}
use Rattle.concon_run.specs.FileRefusals.{FileRefusal, file_refused_line}
use Rattle.concon_run.specs.CertRefusals.{CertRefusal, IsCertRefused, cert_refused_line}
use Rattle.concon_run.specs.Run.{Run}
use Rattle.concon_run.specs.Said.{Said, TellsIfMemory, IsUnlessHindered, read_fault_said}
use Rattle.concon_run.specs.Systems.{IsRefusedFile, IsConfirmed}
use Rattle.concon_run.specs.Verdicts.{status_of}
use Rattle.concon_run.specs.declared.status.Status.{Status}
use Rattle.concon_run.specs.declared.status.Status.TheVariants as status

-- the words name a file and a certificate to be checked
abbrev pub IsCheck : List (List ℕ) → List ℕ → List ℕ → Type 0
IsCheck words file cert = words ≡ codes "check" ∷ file ∷ cert ∷ []

-- with these names the text is refused
abbrev pub IsRefusedCertificate : Bytes → NameTable → CertRefusal → Type 0
IsRefusedCertificate cert names refusal = (bytes : List ℕ) × cert bytes × IsCertRefused names bytes refusal

-- the names that tell the variables of the rules of which the rejection of a certificate with steps speaks: where it is one of the body there are none
abbrev pub names_behind : NameTable → Rejection → Option NameTable
names_behind names (simplification_fails n why) = Some names
names_behind names reason = None

-- the same of any certificate: without steps they are those of the file
abbrev pub names_judged : NameTable → Certificate → Rejection → Option NameTable
names_judged names (ortho_certificate pairs) reason = Some names
names_judged names (quasi_certificate measure pairs) reason = Some names
names_judged names (peak_certificate peak) reason = Some names
names_judged names (simplified_certificate steps c) reason = names_behind names reason

-- what the two texts come to
pub data CheckOutcome : Type 0 where
  no_system : FileRefusal → CheckOutcome
  no_certificate : CertRefusal → CheckOutcome
  -- the certificate is rejected; the names tell its variables
  rejected : Option NameTable → Rejection → CheckOutcome
  -- the certificate is valid, and shows this of the system
  shown : Verdict → CheckOutcome

abbrev pub ComesTo : Bytes → Bytes → CheckOutcome → Type 0
ComesTo file cert (no_system refusal) = IsRefusedFile file refusal
ComesTo file cert (no_certificate refusal) = (sys : System) × (names : NameTable) × SpellsSystem file sys names × IsRefusedCertificate cert names refusal
ComesTo file cert (rejected judged reason) =
    (sys : System) × (names : NameTable) × (c : Certificate) × SpellsSystem file sys names × SpellsCertificate cert names c × IsRejected sys c reason
    × (judged ≡ names_judged names c reason)
ComesTo file cert (shown verdict) =
    (sys : System) × (names : NameTable) × (c : Certificate) × SpellsSystem file sys names × SpellsCertificate cert names c × IsValid sys c
    × (verdict ≡ verdict_of c)

-- the file spells a system, and the certificate a peak, behind good steps or behind none: its derivations lead from the start to two
-- terms without a common reduct
abbrev pub IsRefuted : Bytes → Bytes → Type 0
IsRefuted file cert =
    (sys : System) × (names : NameTable) × (c : Certificate) × SpellsSystem file sys names × SpellsCertificate cert names c × IsPeakApart sys c

-- the verdict is true
abbrev pub IsTrueOf : Bytes → Bytes → Verdict → Type 0
IsTrueOf file cert verdict.Yes = IsConfirmed file
IsTrueOf file cert verdict.No = IsRefuted file cert

-- what is said of it, with the words for the file and for the certificate
abbrev pub said_of_outcome : List ℕ → List ℕ → CheckOutcome → Said
said_of_outcome file cert (no_system refusal) = record { status = status.FileRefused; out = []; err = file_refused_line file refusal }
said_of_outcome file cert (no_certificate refusal) = record { status = status.CertRefused; out = []; err = cert_refused_line cert refusal }
said_of_outcome file cert (rejected names reason) = record { status = status.Rejected; out = rejected_line names reason; err = [] }
said_of_outcome file cert (shown verdict) = record { status = status_of verdict; out = verdict_text verdict; err = [] }

-- what is answered: what the texts come to, or that one of them was not read
pub data CheckAnswer : Type 0 where
  checked : CheckOutcome → CheckAnswer
  file_unread : CheckAnswer
  cert_unread : CheckAnswer

abbrev pub said_of_check : List ℕ → List ℕ → CheckAnswer → Said
said_of_check file cert (checked outcome) = said_of_outcome file cert outcome
said_of_check file cert file_unread = read_fault_said file
said_of_check file cert cert_unread = read_fault_said cert

abbrev pub IsCheckCause : ShelfRun → List ℕ → List ℕ → CheckAnswer → Type 0
IsCheckCause shelf file cert (checked outcome) = ComesTo (bytes_of shelf file) (bytes_of shelf cert) outcome
IsCheckCause shelf file cert file_unread = HasFailed shelf file
IsCheckCause shelf file cert cert_unread = HasFailed shelf cert × ((sys : System) × (names : NameTable) × SpellsSystem (bytes_of shelf file) sys names)

-- an answer that the file's relation is confluent, or that it is not, is right
abbrev pub IsCheckRight : ShelfRun → List ℕ → List ℕ → CheckAnswer → Type 0
IsCheckRight shelf file cert (checked (shown verdict)) = IsTrueOf (bytes_of shelf file) (bytes_of shelf cert) verdict
IsCheckRight shelf file cert _ = Unit {0}

-- where the answer is about FILE, no other file was begun
abbrev pub IsCheckLeft : ShelfRun → List ℕ → CheckAnswer → Type 0
IsCheckLeft shelf file (checked (no_system refusal)) = BeginsAtMost file shelf
IsCheckLeft shelf file file_unread = BeginsAtMost file shelf
IsCheckLeft shelf file _ = Unit {0}

pub record IsCheckAnswer (shelf : ShelfRun) (file cert : List ℕ) (answer : CheckAnswer) : Type 0 where
  pub cause : IsCheckCause shelf file cert answer
  pub right : IsCheckRight shelf file cert answer
  pub left : IsCheckLeft shelf file answer

-- no file but these two was begun, whatever is answered
abbrev pub BeginsForCheck : ShelfRun → List ℕ → List ℕ → Type 0
BeginsForCheck shelf file cert = BeginsAtMost file shelf ⊎ BeginsAtMost cert shelf

-- the words are in form, and the check comes to this
abbrev pub CheckComesTo : Run → CheckOutcome → Type 0
CheckComesTo run outcome =
    (file : List ℕ) × (cert : List ℕ) × IsCheck run.words file cert × ComesTo (bytes_of run.shelf file) (bytes_of run.shelf cert) outcome

-- what the file and the certificate that the words name are told to come to, where no fault of the shelf rose
abbrev pub CalmlyComesTo : Run → List ℕ → List ℕ → CheckOutcome → Type 0
CalmlyComesTo run file cert outcome =
    IsCheck run.words file cert × ComesTo (told_bytes run.shelf file) (told_bytes run.shelf cert) outcome
    × (HasFailed run.shelf file → ⊥) × (HasFailed run.shelf cert → ⊥)

-- then this is told, unless memory was refused
abbrev pub CheckIsExact : Run → Type 0
CheckIsExact run = (file cert : List ℕ) (outcome : CheckOutcome) → CalmlyComesTo run file cert outcome → TellsIfMemory run (said_of_outcome file cert outcome)

-- a valid certificate is answered by what it shows
abbrev pub CheckIsComplete : Run → Type 0
CheckIsComplete run = (file cert : List ℕ) (verdict : Verdict) → CalmlyComesTo run file cert (shown verdict) → IsUnlessHindered (status_of verdict) run.status

-- a check never answers that nothing was found, nor of a query
abbrev pub IsOfCheck : Status → Type 0
IsOfCheck status.Maybe = ⊥
IsOfCheck status.QueryRefused = ⊥
IsOfCheck _ = Unit {0}
