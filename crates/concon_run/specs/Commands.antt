-- The commands, one line for each: its words, its answers, what is said of them, and why.
use Rattle.std.specs.Prelude.{◌≡◌, ◌⊎◌, ℕ, List, [], codes}
use Rattle.run_parts.specs.Devices.{ShelfRun, BeginsAtMost, AsksNothing}
use Rattle.concon_run.specs.Run.{Run}
use Rattle.concon_run.specs.Said.{Said, Tells, no_memory_said}
use Rattle.concon_run.specs.Check.{IsCheck, CheckAnswer, said_of_check, IsCheckAnswer, BeginsForCheck}
use Rattle.concon_run.specs.Prove.{IsProve, ProveAnswer, said_of_prove, IsProveAnswer}
use Rattle.concon_run.specs.Selftest.{IsSelftest, said_of_test}
use Rattle.concon_run.specs.Query.{IsQuery, QueryReply, said_of_query, IsQueryReply, BeginsForQuery}
use Rattle.concon_run.specs.declared.commands.Asked.{Asked}
use Rattle.concon_run.specs.declared.commands.Asked.TheVariants as asked
use Rattle.concon_run.specs.declared.status.Status.TheVariants as status

-- what words ask for: with FILE and CERT, with FILE and the budget, with the number of a test, with FILE, QUERY and the budget
pub data Command : Type 0 where
  check : List ℕ → List ℕ → Command
  prove : List ℕ → ℕ → Command
  selftest : ℕ → Command
  query : List ℕ → List ℕ → ℕ → Command

abbrev pub command_view : Asked → Command
command_view (asked.Check c) = check c.file.now c.cert.now
command_view (asked.Prove p) = prove p.file.now p.budget
command_view (asked.Selftest n) = selftest n
command_view (asked.Query q) = query q.file.now q.query.now q.budget

abbrev pub IsCommand : List (List ℕ) → Command → Type 0
IsCommand words (check file cert) = IsCheck words file cert
IsCommand words (prove file budget) = IsProve words file budget
IsCommand words (selftest n) = IsSelftest words n
IsCommand words (query file text budget) = IsQuery words file text budget

-- the words ask whether the system of FILE is confluent, with this word for FILE
abbrev pub AsksOfSystem : List (List ℕ) → List ℕ → Type 0
AsksOfSystem words file = ((cert : List ℕ) × IsCheck words file cert) ⊎ ((budget : ℕ) × IsProve words file budget)

-- the words are a command, with this word for FILE
abbrev pub NamesFile : List (List ℕ) → List ℕ → Type 0
NamesFile words file = AsksOfSystem words file ⊎ ((text : List ℕ) × (budget : ℕ) × IsQuery words file text budget)

-- the words are no command
abbrev pub IsNoCommand : List (List ℕ) → Type 0
IsNoCommand words = (command : Command) → IsCommand words command → ⊥

abbrev pub usage_said : Said
usage_said =
    record {
      status = status.Usage;
      out = [];
      err = codes "usage: concon check FILE CERT\n       concon prove FILE [--budget N]\n       concon selftest N\n       concon query FILE QUERY [--budget N]\n";
    }

-- what may be answered to a command, where memory was not refused
abbrev pub AnswerTo : Command → Type 0
AnswerTo (check file cert) = CheckAnswer
AnswerTo (prove file budget) = ProveAnswer
AnswerTo (selftest n) = Unit {0}
AnswerTo (query file text budget) = QueryReply

abbrev pub said_to : (command : Command) → AnswerTo command → Said
said_to (check file cert) answer = said_of_check file cert answer
said_to (prove file budget) answer = said_of_prove file answer
said_to (selftest n) answer = said_of_test n
said_to (query file text budget) answer = said_of_query file text answer

-- an answer with its cause, that is right
abbrev pub IsAnswerTo : ShelfRun → (command : Command) → AnswerTo command → Type 0
IsAnswerTo shelf (check file cert) answer = IsCheckAnswer shelf file cert answer
IsAnswerTo shelf (prove file budget) answer = IsProveAnswer shelf file budget answer
IsAnswerTo shelf (selftest n) answer = Unit {0}
IsAnswerTo shelf (query file text budget) answer = IsQueryReply shelf file text budget answer

-- what the shelf is asked, whatever is answered: no file but those that are named is begun, and for a test nothing is asked
abbrev pub AsksFor : ShelfRun → Command → Type 0
AsksFor shelf (check file cert) = BeginsForCheck shelf file cert
AsksFor shelf (prove file budget) = BeginsAtMost file shelf
AsksFor shelf (selftest n) = AsksNothing shelf
AsksFor shelf (query file text budget) = BeginsForQuery shelf file text

-- what is said to a command: an answer, or that memory was refused
pub record IsSaidTo (shelf : ShelfRun) (command : Command) (said : Said) : Type 0 where
  pub asks : AsksFor shelf command
  pub says : ((answer : AnswerTo command) × IsAnswerTo shelf command answer × (said ≡ said_to command answer)) ⊎ (said ≡ no_memory_said)

-- what is said to words: how the program is used, where they are no command and nothing was asked, else what is said to the command
abbrev pub IsSaidFor : List (List ℕ) → ShelfRun → Said → Type 0
IsSaidFor words shelf said =
    (IsNoCommand words × AsksNothing shelf × (said ≡ usage_said))
    ⊎ ((command : Command) × IsCommand words command × IsSaidTo shelf command said)

-- one answer is given, for its cause; out and err took its texts, or a proper front of the one that is not empty
abbrev pub IsAnswered : Run → Type 0
IsAnswered run = (said : Said) × IsSaidFor run.words run.shelf said × Tells run said
