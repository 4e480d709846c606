-- What each status means, and what the texts on out mean.
use Rattle.std.specs.Prelude.{◌≡◌, ◌⊎◌, ◌++◌, ℕ, List, Option, Some, codes}
use Rattle.certificates.specs.Prelude.{Certificate, Rejection}
use Rattle.cert_check.specs.Kinds.{verdict_of}
use Rattle.cert_check.specs.declared.Verdict.{Verdict}
use Rattle.cert_check.specs.declared.Verdict.TheVariants as verdict
use Rattle.cops_names.specs.NameTable.{NameTable}
use Rattle.proof_spaces.specs.Proofs.{proof_space, pruned_proof_space}
use Rattle.run_parts.specs.Devices.{SinkRun, HasFailed, AsksNothing}
use Rattle.run_parts.specs.Taken.{TakesWhole, TakesPart}
use Rattle.run_parts.specs.Bytes.{bytes_of}
use Rattle.run_parts.specs.Texts.{no_memory_text, read_fault_text}
use Rattle.concon_run.specs.Run.{Run}
use Rattle.concon_run.specs.Said.{Said}
use Rattle.concon_run.specs.FileRefusals.{FileRefusal}
use Rattle.concon_run.specs.CertRefusals.{CertRefusal}
use Rattle.concon_run.specs.Systems.{IsRefusedFile, IsConfirmed, IsDisproved}
use Rattle.concon_run.specs.Check.{IsCheck, no_certificate, rejected, shown, IsRefuted, CheckComesTo, CheckIsExact, CheckIsComplete, IsOfCheck}
use Rattle.concon_run.specs.Prove.{IsProve, found, exhausted, over_budget, ProveComesTo, ProveIsExact, ProveIsComplete, ProofStandsBelow, IsOfProve}
use Rattle.concon_run.specs.QueryRefusals.{QueryRefusal}
use Rattle.concon_run.specs.Query.{IsQuery, bad_query, answer_found, RunQueryComesTo, NamesNeverMet, NamesMet, QueryIsExact, QueryIsComplete, AnswerStandsBelow, IsOfQuery}
use Rattle.concon_run.specs.Query as query
use Rattle.concon_run.specs.Selftest.{IsSelftest, TestIsExact}
use Rattle.concon_run.specs.Commands.{Command, IsCommand, AsksOfSystem, NamesFile, IsNoCommand, AsksFor, IsSaidFor, IsAnswered}
use Rattle.query_space.specs.Items.{QueryAnswer}
use Rattle.concon_run.specs.declared.status.Status.{Status}
use Rattle.concon_run.specs.declared.status.Status.TheVariants as status

-- what was written on a sink grew by a text that begins with this letter
abbrev pub GrewBy : SinkRun → List ℕ → Type 0
GrewBy sink letter = (before : List ℕ) × (text : List ℕ) × (sink.written_before ≡ Some before) × (sink.written_now ≡ Some (before ++ (letter ++ text)))

-- the words name the text of a system, and its file's relation is confluent, as is that of the system
abbrev pub NamesConfluentSystem : Run → Type 0
NamesConfluentSystem run = (file : List ℕ) × AsksOfSystem run.words file × IsConfirmed (bytes_of run.shelf file)

-- the words name the text of a system, and that of a peak where there is to be one: its derivations lead from the start to two terms without a common reduct
abbrev pub NamesPeakApart : Run → Type 0
NamesPeakApart run =
    ((file : List ℕ) × (cert : List ℕ) × IsCheck run.words file cert × IsRefuted (bytes_of run.shelf file) (bytes_of run.shelf cert))
    ⊎ ((file : List ℕ) × (budget : ℕ) × IsProve run.words file budget × IsDisproved (bytes_of run.shelf file))

-- where out grew by a text that begins with Y, the file's relation is confluent, and so is that of the system; of a query, no level and no substitution meet its conditions
abbrev pub YesIsSound : Run → Type 0
YesIsSound run = GrewBy run.out (codes "Y") → NamesConfluentSystem run ⊎ NamesNeverMet run

-- where out grew by a text that begins with N, some file term reaches two that have no common reduct, by the file's relation and by that of the system; of a query, values meet its conditions
abbrev pub NoIsSound : Run → Type 0
NoIsSound run = GrewBy run.out (codes "N") → NamesPeakApart run ⊎ NamesMet run

abbrev pub IsFileRefusal : Run → Type 0
IsFileRefusal run = (refusal : FileRefusal) × (file : List ℕ) × NamesFile run.words file × IsRefusedFile (bytes_of run.shelf file) refusal

abbrev pub IsCertificateRefusal : Run → Type 0
IsCertificateRefusal run = (refusal : CertRefusal) × CheckComesTo run (no_certificate refusal)

abbrev pub IsRejection : Run → Type 0
IsRejection run = (names : Option NameTable) × (reason : Rejection) × CheckComesTo run (rejected names reason)

-- a certificate with this verdict is valid: the one that is checked, or the first that is searched for
abbrev pub IsVerdict : Run → Verdict → Type 0
IsVerdict run v = CheckComesTo run (shown v) ⊎ ((names : NameTable) × (c : Certificate) × ProveComesTo run (found names c) × (v ≡ verdict_of c))

abbrev pub IsQueryRefusal : Run → Type 0
IsQueryRefusal run = (refusal : QueryRefusal) × RunQueryComesTo run (bad_query refusal)

-- a query has an answer that is said with this status
abbrev pub IsQueryAnswered : Run → Status → Type 0
IsQueryAnswered run s =
    (names : NameTable) × (vs : List (List ℕ)) × (a : QueryAnswer) × RunQueryComesTo run (answer_found names vs a) × (s ≡ (query.said_of_answer names vs a).status)

-- such a certificate shows that a system is confluent, or the words ask for a test, or conditions are never met
abbrev pub IsYes : Run → Type 0
IsYes run = (IsVerdict run verdict.Yes ⊎ ((n : ℕ) × IsSelftest run.words n)) ⊎ IsQueryAnswered run status.Yes

abbrev pub IsNo : Run → Type 0
IsNo run = IsVerdict run verdict.No ⊎ IsQueryAnswered run status.No

-- out took why there is no answer: nothing that is searched for is valid, behind standard steps too; or more would have to be paid than the budget, up
-- to the first valid certificate, and for all that is searched
abbrev pub IsUndecided : Run → Type 0
IsUndecided run =
    ((ProveComesTo run exhausted ⊎ RunQueryComesTo run query.exhausted) × TakesWhole (codes "MAYBE exhausted\n") run.out)
    ⊎ ((ProveComesTo run over_budget ⊎ RunQueryComesTo run query.over_budget) × TakesWhole (codes "MAYBE budget\n") run.out)

-- the shelf failed at the file that err names
abbrev pub IsReadFault : Run → Type 0
IsReadFault run = (name : List ℕ) × HasFailed run.shelf name × TakesWhole (read_fault_text name) run.err

-- of the answer's text a sink took a proper front, and its faults rose; the other sink took nothing
abbrev pub IsWriteFault : Run → Type 0
IsWriteFault run = (said : Said) × IsSaidFor run.words run.shelf said × TakesPart said.out run.out × TakesPart said.err run.err

-- out took nothing
pub record IsWanting (run : Run) : Type 0 where
  pub out : run.out.written_now ≡ run.out.written_before
  pub err : TakesWhole no_memory_text run.err

-- all that is known of a run
pub record IsRun (run : Run) : Type 0 where
  pub answer : IsAnswered run
  pub yes_is_sound : YesIsSound run
  pub no_is_sound : NoIsSound run
  pub exactly : CheckIsExact run
  pub complete : CheckIsComplete run
  pub searched : ProveIsExact pruned_proof_space run
  pub searched_whole : ProveIsExact proof_space run
  pub enough : ProveIsComplete pruned_proof_space run
  pub enough_whole : ProveIsComplete proof_space run
  pub self_tested : TestIsExact run
  pub queried : QueryIsExact run
  pub query_complete : QueryIsComplete run
  pub query_proved : AnswerStandsBelow run
  pub usage : run.status ≡ status.Usage → IsNoCommand run.words
  pub usage_exactly : IsNoCommand run.words → (run.status ≡ status.Usage) ⊎ (run.status ≡ status.WriteFault)
  pub nothing_asked : IsNoCommand run.words → AsksNothing run.shelf
  pub asked : (command : Command) → IsCommand run.words command → AsksFor run.shelf command
  pub file_refused : run.status ≡ status.FileRefused → IsFileRefusal run
  pub cert_refused : run.status ≡ status.CertRefused → IsCertificateRefusal run
  pub query_refused : run.status ≡ status.QueryRefused → IsQueryRefusal run
  pub rejected : run.status ≡ status.Rejected → IsRejection run
  pub yes : run.status ≡ status.Yes → IsYes run
  pub no : run.status ≡ status.No → IsNo run
  pub proved : ProofStandsBelow run
  pub undecided : run.status ≡ status.Maybe → IsUndecided run
  pub read_fault : run.status ≡ status.ReadFault → IsReadFault run
  pub write_fault : run.status ≡ status.WriteFault → IsWriteFault run
  pub no_memory : run.status ≡ status.NoMemory → IsWanting run
  pub of_check : (file cert : List ℕ) → IsCheck run.words file cert → IsOfCheck run.status
  pub of_prove : (file : List ℕ) (budget : ℕ) → IsProve run.words file budget → IsOfProve run.status
  pub of_query : (file query : List ℕ) (budget : ℕ) → IsQuery run.words file query budget → IsOfQuery run.status
