-- What is tried, in order, to answer a query: evidence that its conditions are never met, then values for its open variables.
use Rattle.std.specs.Prelude.{ℕ, suc, ◌≡◌, List, [], ◌∷◌, ◌++◌, map, length, None}
use Rattle.rewriting.specs.Prelude.{IsAmong, Term, Bindings, values_of, Condition, System}
use Rattle.certificates.specs.Prelude.{Derivation, InfeasibilityEvidence}
use Rattle.judged_evidence.specs.Evidence.{IsInfeasibilityJudged}
use Rattle.search_spaces.specs.Refuting.{Refuting, Tries, refutings}
use Rattle.reach_lists.specs.Solutions.{Reached, Solution, solutions, asked}
use Rattle.reach_lists.specs.Lists.{unconditional, reach_list, reach_cost, total}
use Rattle.query_space.specs.Variables.{numbers_of}
use Rattle.query_space.specs.Assignments.{assignments}

-- what a query is answered by: evidence that the conditions are never met; or the value of each variable by number, and a derivation for each condition
pub data QueryAnswer : Type 0 where
  never_met : InfeasibilityEvidence → QueryAnswer
  met_by : List Term → List Derivation → QueryAnswer

pub data QueryItem : Type 0 where
  try_refuting : Refuting → QueryItem
  try_values : Bindings → QueryItem

-- the list of a left side's instance, in 5 steps with condition depth 2, and its cost
abbrev pub query_list : System → Term → List Reached
query_list sys t = reach_list sys [] 5 2 t

abbrev pub query_list_cost : System → Term → ℕ
query_list_cost sys t = reach_cost sys [] 5 2 t

-- the full substitutions under an assignment: the conditions are met in turn
abbrev pub full_under : System → List Condition → Bindings → List Solution
full_under sys cs b = solutions (query_list sys) cs (unconditional b ∷ [])

-- the terms of which lists are made for that
abbrev pub asked_under : System → List Condition → Bindings → List Term
asked_under sys cs b = asked (query_list sys) cs (unconditional b ∷ [])

-- an evidence costs one; an assignment costs one, and each list that is made under it its cost
abbrev pub assignment_cost : System → List Condition → Bindings → ℕ
assignment_cost sys cs b = suc (total (query_list_cost sys) (asked_under sys cs b))

abbrev pub query_item_cost : System → List Condition → QueryItem → ℕ
query_item_cost sys cs (try_refuting r) = 1
query_item_cost sys cs (try_values b) = assignment_cost sys cs b

-- first caps, and the automata that grow from the left sides, by number
abbrev pub evidence_items : List Condition → List QueryItem
evidence_items cs = map try_refuting (refutings (length cs))

-- then the assignments
abbrev pub value_items : System → List Condition → List QueryItem
value_items sys cs = map try_values (assignments sys cs)

abbrev pub query_items : System → List Condition → List QueryItem
query_items sys cs = evidence_items cs ++ value_items sys cs

-- the value of each variable, by number
abbrev pub values_by_number : List Condition → Bindings → List Term
values_by_number cs b = map (values_of b) (numbers_of cs)

-- what a full substitution carries
abbrev pub answer_of : List Condition → Solution → QueryAnswer
answer_of cs s = met_by (values_by_number cs s.values) s.by

-- the evidence is valid
abbrev pub Refutes : System → List Condition → Refuting → InfeasibilityEvidence → Type 0
Refutes sys cs r e = Tries sys cs r e × IsInfeasibilityJudged sys cs e None

-- the first full substitution under the assignment
abbrev pub IsFirstUnder : System → List Condition → Bindings → Solution → Type 0
IsFirstUnder sys cs b s = (rest : List Solution) × (full_under sys cs b ≡ s ∷ rest)

-- what an item gives: the evidence where it is valid; the first full substitution
abbrev pub GivesAnswer : System → List Condition → QueryItem → QueryAnswer → Type 0
GivesAnswer sys cs (try_refuting r) a = (e : InfeasibilityEvidence) × Refutes sys cs r e × (a ≡ never_met e)
GivesAnswer sys cs (try_values b) a = (s : Solution) × IsFirstUnder sys cs b s × (a ≡ answer_of cs s)

-- what an item holds: the evidence, valid or not; each full substitution
abbrev pub HoldsAnswer : System → List Condition → QueryItem → QueryAnswer → Type 0
HoldsAnswer sys cs (try_refuting r) a = (e : InfeasibilityEvidence) × Tries sys cs r e × (a ≡ never_met e)
HoldsAnswer sys cs (try_values b) a = (s : Solution) × IsAmong s (full_under sys cs b) × (a ≡ answer_of cs s)

-- evidence answers where it is valid, a full substitution always
abbrev pub IsGoodAnswer : System → List Condition → QueryAnswer → Type 0
IsGoodAnswer sys cs (never_met e) = IsInfeasibilityJudged sys cs e None
IsGoodAnswer sys cs (met_by ts ds) = Unit {0}
