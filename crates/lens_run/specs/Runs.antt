-- What is said to a command, and why.
use Rattle.std.specs.Prelude.{◌≡◌, ◌⊎◌, ◌<◌, ℕ, List, length, Option, Some, None}
use Rattle.cc_io.specs.declared.shelf.ReadAllError.{ReadAllError}
use Rattle.cc_io.specs.declared.shelf.ReadAllError.TheVariants.{ReadFault, TooLong, NoMemory}
use Rattle.rewriting.specs.Rules.{System}
use Rattle.certificates.specs.Certificates.{Certificate}
use Rattle.cops_names.specs.NameTable.{NameTable}
use Rattle.cops_read.specs.File.{FileCause, IsNoFile}
use Rattle.cert_grammar.specs.Prelude.{CertificateCause, IsCertificateRefused}
use Rattle.refusal_texts.specs.Files.{file_cause_words}
use Rattle.refusal_texts.specs.Certificates.{cert_cause_words}
use Rattle.run_parts.specs.Bytes.{most_file_bytes, most_cert_bytes, Bytes, told_or_any, SpellsSystem, SpellsCertificate}
use Rattle.run_parts.specs.Devices.{ShelfRun, SinkRun, HasFailed}
use Rattle.lens_run.specs.Commands.{Command, show, skeleton, tell, picture, ari, seek, IsCommand, IsNoCommand}
use Rattle.lens_run.specs.Texts.{IsRefusalText, too_long_text}
use Rattle.lens_run.specs.Judged.{IsJudgedPage}
use Rattle.lens_run.specs.Sought.{IsSoughtSaid}
use Rattle.lens_run.specs.Said.{Said, page_said, complaint_said, usage_said, no_memory_said, read_fault_said, IsTold}
use Rattle.lens_run.specs.declared.status.Status.{Status}
use Rattle.lens_run.specs.declared.status.Status.TheVariants as status

-- this status, and a text of a refusal with its line and its column
abbrev pub IsPlaced : Status → List ℕ → List ℕ → ℕ → List ℕ → Said → Type 0
IsPlaced s name bytes at why said = (text : List ℕ) × IsRefusalText name bytes at why text × (said ≡ complaint_said s text)

-- this status, and that a text is too long
abbrev pub IsTooLongSaid : Status → List ℕ → Said → Type 0
IsTooLongSaid s name said = (most : List ℕ) × (said ≡ complaint_said s (too_long_text name most))

-- what is said of a text that was not read whole, unless memory was refused
abbrev pub IsSaidUnread : Status → List ℕ → ReadAllError → Said → Type 0
IsSaidUnread s name ReadFault said = (said ≡ read_fault_said name) ⊎ (said ≡ no_memory_said)
IsSaidUnread s name (TooLong n) said = IsTooLongSaid s name said ⊎ (said ≡ no_memory_said)
IsSaidUnread s name NoMemory said = said ≡ no_memory_said

-- what is said of one that is refused, unless memory was
abbrev pub IsSaidRefused : Status → List ℕ → List ℕ → Option (ℕ × List ℕ) → Said → Type 0
IsSaidRefused s name bytes (Some r) said = IsPlaced s name bytes r.0 r.1 said ⊎ (said ≡ no_memory_said)
IsSaidRefused s name bytes None said = said ≡ no_memory_said

-- the shelf failed at a file, or memory was refused
abbrev pub IsHindered : Type 0 → List ℕ → Said → Type 0
IsHindered failed name said = (failed × (said ≡ read_fault_said name)) ⊎ (said ≡ no_memory_said)

-- the bytes are too many, or spell no system
abbrev pub IsFileRefusal : Bytes → List ℕ → Said → Type 0
IsFileRefusal file name said =
    (bytes : List ℕ) × file bytes
    × (((most_file_bytes < length bytes) × IsTooLongSaid status.FileRefused name said)
    ⊎ ((cause : FileCause) × (at : ℕ) × IsNoFile bytes cause at × IsPlaced status.FileRefused name bytes at (file_cause_words cause) said))

-- the bytes are too many, or spell no certificate with these names
abbrev pub IsCertRefusal : Bytes → NameTable → List ℕ → Said → Type 0
IsCertRefusal cert names name said =
    (bytes : List ℕ) × cert bytes
    × (((most_cert_bytes < length bytes) × IsTooLongSaid status.CertRefused name said)
    ⊎ ((cause : CertificateCause) × (at : ℕ) × IsCertificateRefused names bytes cause at × IsPlaced status.CertRefused name bytes at (cert_cause_words cause) said))

-- the bytes are too many, or are refused at some place
abbrev pub IsAriRefusal : Bytes → List ℕ → Said → Type 0
IsAriRefusal file name said =
    (bytes : List ℕ) × file bytes
    × (((most_file_bytes < length bytes) × IsTooLongSaid status.FileRefused name said)
    ⊎ ((at : ℕ) × (why : List ℕ) × IsPlaced status.FileRefused name bytes at why said))

-- a page is written, of what is so
abbrev pub IsPageOf : Type 0 → Said → Type 0
IsPageOf so said = so × ((page : List ℕ) × (said ≡ page_said page))

abbrev pub NoSystemSaid : Bytes → Type 0 → List ℕ → Said → Type 0
NoSystemSaid file failed name said = IsFileRefusal file name said ⊎ IsHindered failed name said

abbrev pub NoCertSaid : Bytes → NameTable → Type 0 → List ℕ → Said → Type 0
NoCertSaid cert names failed name said = IsCertRefusal cert names name said ⊎ IsHindered failed name said

-- the file spells a system, of which a page is written; or it spells none
abbrev pub IsShown : Bytes → Type 0 → List ℕ → Said → Type 0
IsShown file failed name said =
    IsPageOf ((sys : System) × (names : NameTable) × SpellsSystem file sys names) said ⊎ NoSystemSaid file failed name said

-- the file spells a system, with whose names the other bytes spell a certificate, of which this is said; or one of them is refused
abbrev pub IsSaidOfBoth : Bytes → Type 0 → List ℕ → Bytes → Type 0 → List ℕ → (System → Certificate → Said → Type 0) → Said → Type 0
IsSaidOfBoth file file_failed file_name cert cert_failed cert_name So said =
    NoSystemSaid file file_failed file_name said
    ⊎ ((sys : System) × (names : NameTable) × SpellsSystem file sys names
    × (((c : Certificate) × SpellsCertificate cert names c × So sys c said) ⊎ NoCertSaid cert names cert_failed cert_name said))

-- a page that begins with what its check shows
abbrev pub IsJudgedSaid : System → Certificate → Said → Type 0
IsJudgedSaid sys c said = (page : List ℕ) × IsJudgedPage sys c page × (said ≡ page_said page)

-- a page
abbrev pub IsDrawnSaid : System → Certificate → Said → Type 0
IsDrawnSaid sys c said = (page : List ℕ) × (said ≡ page_said page)

abbrev pub IsToldOf : Bytes → Type 0 → List ℕ → Bytes → Type 0 → List ℕ → Said → Type 0
IsToldOf file file_failed file_name cert cert_failed cert_name said = IsSaidOfBoth file file_failed file_name cert cert_failed cert_name IsJudgedSaid said

abbrev pub IsDrawnOf : Bytes → Type 0 → List ℕ → Bytes → Type 0 → List ℕ → Said → Type 0
IsDrawnOf file file_failed file_name cert cert_failed cert_name said = IsSaidOfBoth file file_failed file_name cert cert_failed cert_name IsDrawnSaid said

-- the file was read, and a page is written; or it is refused
abbrev pub IsAriSaid : Bytes → Type 0 → List ℕ → Said → Type 0
IsAriSaid file failed name said = IsPageOf (Unit {0}) said ⊎ (IsAriRefusal file name said ⊎ IsHindered failed name said)

-- the file spells a system, of which it is said what a wider search finds; or it spells none
abbrev pub IsSought : Bytes → Type 0 → List ℕ → Said → Type 0
IsSought file failed name said =
    ((sys : System) × (names : NameTable) × SpellsSystem file sys names × IsSoughtSaid sys names said) ⊎ NoSystemSaid file failed name said

abbrev pub IsSaidTo : ShelfRun → Command → Said → Type 0
IsSaidTo shelf (show file) said = IsShown (told_or_any (shelf.contents file)) (HasFailed shelf file) file said
IsSaidTo shelf (skeleton file kind) said = IsShown (told_or_any (shelf.contents file)) (HasFailed shelf file) file said
IsSaidTo shelf (tell file cert) said = IsToldOf (told_or_any (shelf.contents file)) (HasFailed shelf file) file (told_or_any (shelf.contents cert)) (HasFailed shelf cert) cert said
IsSaidTo shelf (picture file cert) said = IsDrawnOf (told_or_any (shelf.contents file)) (HasFailed shelf file) file (told_or_any (shelf.contents cert)) (HasFailed shelf cert) cert said
IsSaidTo shelf (ari file) said = IsAriSaid (told_or_any (shelf.contents file)) (HasFailed shelf file) file said
IsSaidTo shelf (seek file units) said = IsSought (told_or_any (shelf.contents file)) (HasFailed shelf file) file said

-- how the program is used, where the words are no command and no file was begun; else what is said to the command
abbrev pub IsSaidFor : List (List ℕ) → ShelfRun → Said → Type 0
IsSaidFor words shelf said =
    (IsNoCommand words × (shelf.begun_now ≡ shelf.begun_before) × (said ≡ usage_said)) ⊎ ((command : Command) × IsCommand words command × IsSaidTo shelf command said)

-- one answer is given, for its cause; out and err took its texts, or a proper front of the one that is not empty
abbrev pub IsAnswered : List (List ℕ) → Status → ShelfRun → SinkRun → SinkRun → Type 0
IsAnswered words s shelf out err = (said : Said) × IsSaidFor words shelf said × IsTold said s out err
