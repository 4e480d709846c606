-- The command query: its words, what it may answer and why, the texts of that, and what each answer means.
use Rattle.std.specs.Prelude.{◌≡◌, ◌⊎◌, ◌≤◌, ◌++◌, ℕ, List, [], ◌∷◌, length, codes}
use Rattle.rewriting.specs.Prelude.{Term, Condition, System, IsInfeasible}
use Rattle.certificates.specs.Prelude.{Derivation, InfeasibilityEvidence}
use Rattle.first_found.specs.Spaces.{IsDearer}
use Rattle.cops_names.specs.NameTable.{NameTable}
use Rattle.cert_grammar.specs.Prelude.{term_text, derivation_text, in_full, infeasibility_text}
use Rattle.query_text.specs.Query as text
use Rattle.query_space.specs.Items.{QueryAnswer, never_met, met_by, IsGoodAnswer}
use Rattle.query_space.specs.Space.{query_space, IsHeld, IsQueryPrice}
use Rattle.query_space.specs.Laws.{SaysTrue}
use Rattle.query_space.specs.Met.{IsMet}
use Rattle.run_parts.specs.Words.{usual_budget, IsBudget}
use Rattle.run_parts.specs.Bytes.{most_query_bytes, Bytes, bytes_of, told_bytes, SpellsSystem}
use Rattle.run_parts.specs.Devices.{ShelfRun, HasFailed, BeginsAtMost}
use Rattle.run_parts.specs.Taken.{TakesWhole}
use Rattle.concon_run.specs.FileRefusals.{FileRefusal, file_refused_line}
use Rattle.concon_run.specs.QueryRefusals.{QueryRefusal, IsQueryRefused, query_refused_line}
use Rattle.concon_run.specs.Run.{Run}
use Rattle.concon_run.specs.Said.{Said, TellsIfMemory, IsUnlessHindered, read_fault_said}
use Rattle.concon_run.specs.Systems.{IsRefusedFile}
use Rattle.concon_run.specs.declared.status.Status.{Status}
use Rattle.concon_run.specs.declared.status.Status.TheVariants as status

-- the words name a file, a query, and a budget within which an answer is to be found
abbrev pub IsQuery : List (List ℕ) → List ℕ → List ℕ → ℕ → Type 0
IsQuery words file query budget =
    ((words ≡ codes "query" ∷ file ∷ query ∷ []) × (budget ≡ usual_budget))
    ⊎ ((number : List ℕ) × (words ≡ codes "query" ∷ file ∷ query ∷ codes "--budget" ∷ number ∷ []) × IsBudget number budget)

-- over the system with these names the text is the query of the conditions, with these names of variables, or refused
abbrev pub SpellsQuery : Bytes → System → NameTable → List Condition → List (List ℕ) → Type 0
SpellsQuery query sys names cs vs = (bytes : List ℕ) × query bytes × (length bytes ≤ most_query_bytes) × text.IsQuery sys names.symbols bytes cs vs

abbrev pub IsRefusedQuery : Bytes → System → NameTable → QueryRefusal → Type 0
IsRefusedQuery query sys names refusal = (bytes : List ℕ) × query bytes × IsQueryRefused sys names bytes refusal

-- what the two texts come to
pub data QueryOutcome : Type 0 where
  bad_file : FileRefusal → QueryOutcome
  bad_query : QueryRefusal → QueryOutcome
  -- an answer, with the names of the file and those of the query's variables
  answer_found : NameTable → List (List ℕ) → QueryAnswer → QueryOutcome
  over_budget : QueryOutcome
  -- nothing that is tried answers
  exhausted : QueryOutcome

-- the file spells the system, and the query these conditions
pub record Spells (file query : Bytes) (sys : System) (names : NameTable) (cs : List Condition) (vs : List (List ℕ)) : Type 0 where
  pub system : SpellsSystem file sys names
  pub conditions : SpellsQuery query sys names cs vs

-- the answer is good, and the first such that the search comes to, at a price
pub record IsFirstAnswer (sys : System) (cs : List Condition) (a : QueryAnswer) : Type 0 where
  pub price : ℕ
  pub first : (query_space sys cs).Finds a price
  pub good : IsGoodAnswer sys cs a

-- nothing in what is searched is a good answer: no valid evidence, and no full substitution
abbrev pub HoldsNoAnswer : System → List Condition → Type 0
HoldsNoAnswer sys cs = (a : QueryAnswer) → IsHeld sys cs a → IsGoodAnswer sys cs a → ⊥

-- when a query may come to an outcome
abbrev pub QueryComesTo : Bytes → Bytes → ℕ → QueryOutcome → Type 0
QueryComesTo file query budget (bad_file refusal) = IsRefusedFile file refusal
QueryComesTo file query budget (bad_query refusal) = (sys : System) × (names : NameTable) × SpellsSystem file sys names × IsRefusedQuery query sys names refusal
QueryComesTo file query budget (answer_found names vs a) = (sys : System) × (cs : List Condition) × Spells file query sys names cs vs × IsFirstAnswer sys cs a
QueryComesTo file query budget over_budget =
    (sys : System) × (names : NameTable) × (cs : List Condition) × (vs : List (List ℕ)) × Spells file query sys names cs vs × IsDearer (query_space sys cs) budget
QueryComesTo file query budget exhausted =
    (sys : System) × (names : NameTable) × (cs : List Condition) × (vs : List (List ℕ)) × Spells file query sys names cs vs × HoldsNoAnswer sys cs

-- when it can come to nothing else: a text is refused, the price of the first answer is within the budget, or there is none and all that is searched is within it
abbrev pub QueryMustComeTo : Bytes → Bytes → ℕ → QueryOutcome → Type 0
QueryMustComeTo file query budget (bad_file refusal) = IsRefusedFile file refusal
QueryMustComeTo file query budget (bad_query refusal) = (sys : System) × (names : NameTable) × SpellsSystem file sys names × IsRefusedQuery query sys names refusal
QueryMustComeTo file query budget (answer_found names vs a) =
    (sys : System) × (cs : List Condition) × (n : ℕ) × Spells file query sys names cs vs × (query_space sys cs).Finds a n × (n ≤ budget)
QueryMustComeTo file query budget exhausted =
    (sys : System) × (names : NameTable) × (cs : List Condition) × (vs : List (List ℕ)) × (n : ℕ) × Spells file query sys names cs vs × HoldsNoAnswer sys cs
    × (query_space sys cs).Costs n × (n ≤ budget)
QueryMustComeTo file query budget over_budget = ⊥

-- a line for each variable with its value
abbrev pub value_line : NameTable → List ℕ → Term → List ℕ
value_line names v t = codes "value " ++ (v ++ (codes " " ++ (term_text names t ++ codes "\n")))

abbrev pub value_lines : NameTable → List (List ℕ) → List Term → List ℕ
value_lines names [] ts = []
value_lines names (v ∷ vs) [] = []
value_lines names (v ∷ vs) (t ∷ ts) = value_line names v t ++ value_lines names vs ts

abbrev pub derivation_lines : List Derivation → List ℕ
derivation_lines [] = []
derivation_lines (d ∷ ds) = derivation_text d ++ derivation_lines ds

-- the answer, and below it what shows it
abbrev pub never_text : NameTable → InfeasibilityEvidence → List ℕ
never_text names e = codes "YES\nconcon query 1\n" ++ (infeasibility_text names in_full e ++ codes "end\n")

abbrev pub met_text : NameTable → List (List ℕ) → List Term → List Derivation → List ℕ
met_text names vs ts ds = codes "NO\nconcon query 1\n" ++ (value_lines names vs ts ++ (derivation_lines ds ++ codes "end\n"))

abbrev pub said_of_answer : NameTable → List (List ℕ) → QueryAnswer → Said
said_of_answer names vs (never_met e) = record { status = status.Yes; out = never_text names e; err = [] }
said_of_answer names vs (met_by ts ds) = record { status = status.No; out = met_text names vs ts ds; err = [] }

-- what is said of it, with the words for the file and for the query
abbrev pub said_of_question : List ℕ → List ℕ → QueryOutcome → Said
said_of_question file query (bad_file refusal) = record { status = status.FileRefused; out = []; err = file_refused_line file refusal }
said_of_question file query (bad_query refusal) = record { status = status.QueryRefused; out = []; err = query_refused_line query refusal }
said_of_question file query (answer_found names vs a) = said_of_answer names vs a
said_of_question file query over_budget = record { status = status.Maybe; out = codes "MAYBE budget\n"; err = [] }
said_of_question file query exhausted = record { status = status.Maybe; out = codes "MAYBE exhausted\n"; err = [] }

-- what is answered: what the texts come to, or that one of them was not read
pub data QueryReply : Type 0 where
  queried : QueryOutcome → QueryReply
  file_unread : QueryReply
  query_unread : QueryReply

abbrev pub said_of_query : List ℕ → List ℕ → QueryReply → Said
said_of_query file query (queried outcome) = said_of_question file query outcome
said_of_query file query file_unread = read_fault_said file
said_of_query file query query_unread = read_fault_said query

abbrev pub IsQueryCause : ShelfRun → List ℕ → List ℕ → ℕ → QueryReply → Type 0
IsQueryCause shelf file query budget (queried outcome) = QueryComesTo (bytes_of shelf file) (bytes_of shelf query) budget outcome
IsQueryCause shelf file query budget file_unread = HasFailed shelf file
IsQueryCause shelf file query budget query_unread = HasFailed shelf query × ((sys : System) × (names : NameTable) × SpellsSystem (bytes_of shelf file) sys names)

-- an answer that the conditions are never met, or that they are, is right
abbrev pub IsQueryRight : ShelfRun → List ℕ → List ℕ → QueryReply → Type 0
IsQueryRight shelf file query (queried (answer_found names vs a)) =
    (sys : System) × (cs : List Condition) × Spells (bytes_of shelf file) (bytes_of shelf query) sys names cs vs × SaysTrue sys cs a
IsQueryRight shelf file query _ = Unit {0}

-- where the answer is about FILE, no other file was begun
abbrev pub IsQueryLeft : ShelfRun → List ℕ → QueryReply → Type 0
IsQueryLeft shelf file (queried (bad_file refusal)) = BeginsAtMost file shelf
IsQueryLeft shelf file file_unread = BeginsAtMost file shelf
IsQueryLeft shelf file _ = Unit {0}

pub record IsQueryReply (shelf : ShelfRun) (file query : List ℕ) (budget : ℕ) (reply : QueryReply) : Type 0 where
  pub cause : IsQueryCause shelf file query budget reply
  pub right : IsQueryRight shelf file query reply
  pub left : IsQueryLeft shelf file reply

-- no file but these two was begun, whatever is answered
abbrev pub BeginsForQuery : ShelfRun → List ℕ → List ℕ → Type 0
BeginsForQuery shelf file query = BeginsAtMost file shelf ⊎ BeginsAtMost query shelf

-- the words are in form, and the query comes to this
abbrev pub RunQueryComesTo : Run → QueryOutcome → Type 0
RunQueryComesTo run outcome =
    (file : List ℕ) × (query : List ℕ) × (budget : ℕ) × IsQuery run.words file query budget × QueryComesTo (bytes_of run.shelf file) (bytes_of run.shelf query) budget outcome

-- what the file and the query that the words name must come to, where no fault of the shelf rose
abbrev pub QueryCalmlyComesTo : Run → List ℕ → List ℕ → ℕ → QueryOutcome → Type 0
QueryCalmlyComesTo run file query budget outcome =
    IsQuery run.words file query budget × QueryMustComeTo (told_bytes run.shelf file) (told_bytes run.shelf query) budget outcome
    × (HasFailed run.shelf file → ⊥) × (HasFailed run.shelf query → ⊥)

-- then this is told, unless memory was refused
abbrev pub QueryIsExact : Run → Type 0
QueryIsExact run =
    (file query : List ℕ) (budget : ℕ) (outcome : QueryOutcome) → QueryCalmlyComesTo run file query budget outcome → TellsIfMemory run (said_of_question file query outcome)

-- the two texts are told to be such that the space holds a good answer, at a price within the budget, and no fault of the shelf rose
pub record HasAnswerInReach (run : Run) (file query : List ℕ) (budget : ℕ) : Type 0 where
  pub form : IsQuery run.words file query budget
  pub system : System
  pub names : NameTable
  pub conditions : List Condition
  pub variables : List (List ℕ)
  pub spells : Spells (told_bytes run.shelf file) (told_bytes run.shelf query) system names conditions variables
  pub answer : QueryAnswer
  pub held : IsHeld system conditions answer
  pub good : IsGoodAnswer system conditions answer
  pub price : ℕ
  pub is_price : IsQueryPrice system conditions price
  pub within : price ≤ budget
  pub no_file_fault : HasFailed run.shelf file → ⊥
  pub no_query_fault : HasFailed run.shelf query → ⊥

-- then there is an answer, unless memory was refused or a sink failed
abbrev pub QueryIsComplete : Run → Type 0
QueryIsComplete run =
    (file query : List ℕ) (budget : ℕ) → HasAnswerInReach run file query budget → IsUnlessHindered status.Yes run.status ⊎ IsUnlessHindered status.No run.status

-- the words name texts, by which no level and no substitution meet the conditions
abbrev pub NamesNeverMet : Run → Type 0
NamesNeverMet run =
    (file : List ℕ) × (query : List ℕ) × (budget : ℕ) × IsQuery run.words file query budget
    × ((sys : System) × (names : NameTable) × (cs : List Condition) × (vs : List (List ℕ)) × Spells (bytes_of run.shelf file) (bytes_of run.shelf query) sys names cs vs
    × IsInfeasible sys cs)

-- the words name texts, and these values meet the conditions at some level, as a derivation for each condition shows
abbrev pub NamesMet : Run → Type 0
NamesMet run =
    (file : List ℕ) × (query : List ℕ) × (budget : ℕ) × IsQuery run.words file query budget
    × ((sys : System) × (names : NameTable) × (cs : List Condition) × (vs : List (List ℕ)) × Spells (bytes_of run.shelf file) (bytes_of run.shelf query) sys names cs vs
    × ((ts : List Term) × (ds : List Derivation) × IsMet sys cs ts ds))

-- out took an answer, and below it what shows it: the first that is good
abbrev pub TookAnswer : Run → List ℕ → List ℕ → Type 0
TookAnswer run file query =
    (sys : System) × (names : NameTable) × (cs : List Condition) × (vs : List (List ℕ)) × (a : QueryAnswer)
    × Spells (bytes_of run.shelf file) (bytes_of run.shelf query) sys names cs vs × IsFirstAnswer sys cs a × TakesWhole (said_of_answer names vs a).out run.out

abbrev pub AnswerStandsBelow : Run → Type 0
AnswerStandsBelow run =
    (file query : List ℕ) (budget : ℕ) → IsQuery run.words file query budget → (run.status ≡ status.Yes) ⊎ (run.status ≡ status.No) → TookAnswer run file query

-- a query never answers of a certificate
abbrev pub IsOfQuery : Status → Type 0
IsOfQuery status.Rejected = ⊥
IsOfQuery status.CertRefused = ⊥
IsOfQuery _ = Unit {0}
