-- The command prove: its words, what it may answer and why, the texts of that, and what each answer means.
use Rattle.std.specs.Prelude.{◌≡◌, ◌⊎◌, ◌≤◌, ℕ, List, [], ◌∷◌, codes}
use Rattle.rewriting.specs.Rules.{System}
use Rattle.certificates.specs.Certificates.{Certificate}
use Rattle.valid_certificates.specs.Certificates.{IsValid}
use Rattle.first_found.specs.Spaces.{Space}
use Rattle.proof_spaces.specs.Proofs.{proof_space}
use Rattle.proof_spaces.specs.Endings.{IsTooLittle}
use Rattle.cops_names.specs.NameTable.{NameTable}
use Rattle.cert_check.specs.Kinds.{verdict_of}
use Rattle.run_parts.specs.Words.{usual_budget, IsBudget}
use Rattle.run_parts.specs.Devices.{ShelfRun, HasFailed}
use Rattle.run_parts.specs.Taken.{TakesWhole}
use Rattle.run_parts.specs.Bytes.{Bytes, bytes_of, told_bytes, SpellsSystem}
use Rattle.run_parts.specs.Answers.{proof_text}
use Rattle.concon_run.specs.FileRefusals.{FileRefusal, file_refused_line}
use Rattle.concon_run.specs.Run.{Run}
use Rattle.concon_run.specs.Said.{Said, TellsIfMemory, IsUnlessHindered, read_fault_said}
use Rattle.concon_run.specs.Systems.{IsRefusedFile}
use Rattle.concon_run.specs.Verdicts.{IsShown, status_of}
use Rattle.concon_run.specs.declared.status.Status.{Status}
use Rattle.concon_run.specs.declared.status.Status.TheVariants as status

-- the words name a file, and a budget within which a certificate is to be found
abbrev pub IsProve : List (List ℕ) → List ℕ → ℕ → Type 0
IsProve words file budget =
    ((words ≡ codes "prove" ∷ file ∷ []) × (budget ≡ usual_budget))
    ⊎ ((number : List ℕ) × (words ≡ codes "prove" ∷ file ∷ codes "--budget" ∷ number ∷ []) × IsBudget number budget)

-- what the search for a file comes to
pub data SearchOutcome : Type 0 where
  bad_file : FileRefusal → SearchOutcome
  -- a certificate; the names are those of the file
  found : NameTable → Certificate → SearchOutcome
  over_budget : SearchOutcome
  -- there is none in what is searched
  exhausted : SearchOutcome

-- the certificate is valid, and the first such that the search comes to, at a price
pub record IsFirstValid (names : NameTable) (sys : System) (c : Certificate) : Type 0 where
  pub price : ℕ
  pub first : (proof_space names sys).Finds c price
  pub valid : IsValid sys c

-- no certificate in what is searched is valid, behind standard steps too
abbrev pub HoldsNone : NameTable → System → Type 0
HoldsNone names sys = (c : Certificate) → (proof_space names sys).Holds c → IsValid sys c → ⊥

-- when the search may come to an outcome
abbrev pub SearchComesTo : Bytes → ℕ → SearchOutcome → Type 0
SearchComesTo file budget (bad_file refusal) = IsRefusedFile file refusal
SearchComesTo file budget (found names c) = (sys : System) × SpellsSystem file sys names × IsFirstValid names sys c
SearchComesTo file budget over_budget = (sys : System) × (names : NameTable) × SpellsSystem file sys names × IsTooLittle names sys budget
SearchComesTo file budget exhausted = (sys : System) × (names : NameTable) × SpellsSystem file sys names × HoldsNone names sys

-- the spaces that are searched, as prices are counted in them
abbrev pub Spaces : Type 1
Spaces = NameTable → System → Space Certificate

-- when it can come to nothing else: the file is refused, the price of the first valid certificate is within the budget, or there is none and all that is searched is within it
abbrev pub SearchMustComeTo : Spaces → Bytes → ℕ → SearchOutcome → Type 0
SearchMustComeTo spaces file budget (bad_file refusal) = IsRefusedFile file refusal
SearchMustComeTo spaces file budget (found names c) = (sys : System) × (n : ℕ) × SpellsSystem file sys names × (spaces names sys).Finds c n × (n ≤ budget)
SearchMustComeTo spaces file budget exhausted =
    (sys : System) × (names : NameTable) × (n : ℕ) × SpellsSystem file sys names × HoldsNone names sys × (spaces names sys).Costs n × (n ≤ budget)
SearchMustComeTo spaces file budget over_budget = ⊥

-- what is said of it, with the word for the file
abbrev pub said_of_search : List ℕ → SearchOutcome → Said
said_of_search file (bad_file refusal) = record { status = status.FileRefused; out = []; err = file_refused_line file refusal }
said_of_search file (found names c) = record { status = status_of (verdict_of c); out = proof_text names c; err = [] }
said_of_search file over_budget = record { status = status.Maybe; out = codes "MAYBE budget\n"; err = [] }
said_of_search file exhausted = record { status = status.Maybe; out = codes "MAYBE exhausted\n"; err = [] }

-- what is answered: what the search comes to, or that the file was not read
pub data ProveAnswer : Type 0 where
  searched : SearchOutcome → ProveAnswer
  file_unread : ProveAnswer

abbrev pub said_of_prove : List ℕ → ProveAnswer → Said
said_of_prove file (searched outcome) = said_of_search file outcome
said_of_prove file file_unread = read_fault_said file

abbrev pub IsProveCause : ShelfRun → List ℕ → ℕ → ProveAnswer → Type 0
IsProveCause shelf file budget (searched outcome) = SearchComesTo (bytes_of shelf file) budget outcome
IsProveCause shelf file budget file_unread = HasFailed shelf file

-- an answer that the file's relation is confluent, or that it is not, is right
abbrev pub IsProveRight : ShelfRun → List ℕ → ProveAnswer → Type 0
IsProveRight shelf file (searched (found names c)) = (sys : System) × SpellsSystem (bytes_of shelf file) sys names × IsShown sys c (verdict_of c)
IsProveRight shelf file _ = Unit {0}

pub record IsProveAnswer (shelf : ShelfRun) (file : List ℕ) (budget : ℕ) (answer : ProveAnswer) : Type 0 where
  pub cause : IsProveCause shelf file budget answer
  pub right : IsProveRight shelf file answer

-- the words are in form, and the search comes to this
abbrev pub ProveComesTo : Run → SearchOutcome → Type 0
ProveComesTo run outcome = (file : List ℕ) × (budget : ℕ) × IsProve run.words file budget × SearchComesTo (bytes_of run.shelf file) budget outcome

-- what the search for the file that the words name must come to, where no fault of the shelf rose
abbrev pub CalmlyMustComeTo : Spaces → Run → List ℕ → ℕ → SearchOutcome → Type 0
CalmlyMustComeTo spaces run file budget outcome =
    IsProve run.words file budget × SearchMustComeTo spaces (told_bytes run.shelf file) budget outcome × (HasFailed run.shelf file → ⊥)

-- then this is told, unless memory was refused
abbrev pub ProveIsExact : Spaces → Run → Type 0
ProveIsExact spaces run = (file : List ℕ) (budget : ℕ) (outcome : SearchOutcome) → CalmlyMustComeTo spaces run file budget outcome → TellsIfMemory run (said_of_search file outcome)

-- a valid certificate that is searched for, with a price within the budget, is found
abbrev pub ProveIsComplete : Spaces → Run → Type 0
ProveIsComplete spaces run =
    (file : List ℕ) (budget : ℕ) (names : NameTable) (c : Certificate) → CalmlyMustComeTo spaces run file budget (found names c) → IsUnlessHindered (status_of (verdict_of c)) run.status

-- out took an answer, and below it the text of a certificate: of the first valid one for the file
abbrev pub TookProof : Run → List ℕ → Type 0
TookProof run file =
    (sys : System) × (names : NameTable) × (c : Certificate) × SpellsSystem (bytes_of run.shelf file) sys names × IsFirstValid names sys c
    × TakesWhole (proof_text names c) run.out

abbrev pub ProofStandsBelow : Run → Type 0
ProofStandsBelow run = (file : List ℕ) (budget : ℕ) → IsProve run.words file budget → (run.status ≡ status.Yes) ⊎ (run.status ≡ status.No) → TookProof run file

-- a search never answers of a certificate that was handed in, nor of a query
abbrev pub IsOfProve : Status → Type 0
IsOfProve status.Rejected = ⊥
IsOfProve status.CertRefused = ⊥
IsOfProve status.QueryRefused = ⊥
IsOfProve _ = Unit {0}
