-- The numbers that relations share at some states.
use Rattle.std.specs.Prelude.{ℕ, ◌↔◌, List}
use Rattle.rewriting.specs.Lists.{IsAmong}
use Rattle.number_sets.specs.Sets.{members}
use Rattle.number_sets.specs.declared.rows.NumberRelation.{NumberRelation}
use Rattle.number_sets.specs.declared.words.NumberSet.{NumberSet}
use Rattle.automaton_runs.specs.Reached.{AreRelated, IsOneOf}
use Rattle.automaton_runs.specs.declared.sharing.Found.{Found}
use Rattle.automaton_runs.specs.declared.sharing.Found.TheVariants.{Nowhere, Row, Both, Made}
use Rattle.automaton_runs.specs.declared.sharing.Shared.{Shared}

-- k is among the numbers
abbrev pub IsIn : Found → NumberSet → ℕ → Type 0
IsIn Nowhere made k = ⊥
IsIn (Row row) made k = IsAmong k (members row.now)
IsIn (Both row other) made k = IsAmong k (members row.now) × IsAmong k (members other.now)
IsIn Made made k = IsAmong k (members made)

-- they are those that each of some relations has at the state at its place
abbrev pub AreShared : List ℕ → List NumberRelation → List ℕ → (ℕ → Type 0) → Type 0
AreShared all rs qs In = (k : ℕ) → In k ↔ (IsOneOf rs all k × AreRelated rs qs k)

-- those that are kept are so at their states
abbrev pub IsShared : List ℕ → List NumberRelation → Shared → Type 0
IsShared all rs s = AreShared all rs s.states.now (IsIn s.found s.made)
