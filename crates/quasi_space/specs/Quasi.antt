-- The space of certificates with a measure: it has one certificate at most.
use Rattle.std.specs.Prelude.{ℕ, ◌≡◌, ◌+◌, ◌⊎◌, List}
use Rattle.rewriting.specs.Prelude.{System, IsDeterministic}
use Rattle.unifier_run.specs.Overlaps.{Overlap, AreOverlaps}
use Rattle.certificates.specs.Prelude.{PairEvidence, PairEntry, MeasureCertificate, Certificate, quasi_certificate}
use Rattle.cops_names.specs.NameTable.{NameTable}
use Rattle.valid_certificates.specs.Confluence.{AreRightSidesIrreducible}
use Rattle.first_found.specs.Items.{IsFirst, IsStopped, cost_of}
use Rattle.first_found.specs.Rows.{AreFirsts}
use Rattle.first_found.specs.Spaces.{Space}
use Rattle.search_spaces.specs.Entries.{entry_for}
use Rattle.search_spaces.specs.Texts.{HasText}
use Rattle.quasi_space.specs.Measures.{MeasureTrials, each_measure}
use Rattle.quasi_space.specs.QuasiItems.{quasi_item_cost, GivesQuasi, quasi_items}

-- the system is deterministic, the right sides of its conditions are absolutely irreducible, and these are the overlaps
pub record IsQuasiOpen (sys : System) (os : List Overlap) : Type 0 where
  pub deterministic : IsDeterministic sys
  pub irreducible : AreRightSidesIrreducible sys
  pub overlaps : AreOverlaps sys os

-- the entry has the first valid evidence for the overlap, at this cost
abbrev pub IsQuasiEntry : System → Overlap → PairEntry → ℕ → Type 0
IsQuasiEntry sys o entry n = (e : PairEvidence) × IsFirst quasi_item_cost (GivesQuasi sys o) (quasi_items sys o) e n × (entry ≡ entry_for o e)

-- a walk through the items of an overlap stopped
abbrev pub StopsAtQuasi : System → Overlap → ℕ → Type 0
StopsAtQuasi sys o n = IsStopped quasi_item_cost (GivesQuasi sys o) (quasi_items sys o) n

-- all items of an overlap; of all overlaps
abbrev pub items_cost : System → Overlap → ℕ
items_cost sys o = cost_of quasi_item_cost (quasi_items sys o)

abbrev pub all_items_cost : System → List Overlap → ℕ
all_items_cost sys os = cost_of (items_cost sys) os

-- an entry for each overlap, and the first good measure; all items count, and the measures up to and with that one
pub record IsQuasiFound (by : MeasureTrials) (names : NameTable) (sys : System) (c : Certificate) (n : ℕ) : Type 0 where
  pub overlaps : List Overlap
  pub is_open : IsQuasiOpen sys overlaps
  pub entries : List PairEntry
  pub paid : ℕ
  pub firsts : AreFirsts (IsQuasiEntry sys) overlaps entries paid
  pub measure : MeasureCertificate
  pub units : ℕ
  pub first : by.First measure units
  pub certificate : c ≡ quasi_certificate measure entries
  pub text : HasText names c
  pub up_to : n ≡ all_items_cost sys overlaps + units

-- all items and all measures; nothing where the space is not open
abbrev pub IsQuasiCost : MeasureTrials → System → ℕ → Type 0
IsQuasiCost by sys n =
    ((os : List Overlap) × IsQuasiOpen sys os × ((units : ℕ) × by.All units × (n ≡ all_items_cost sys os + units)))
    ⊎ (((os : List Overlap) → IsQuasiOpen sys os → ⊥) × (n ≡ 0))

abbrev pub quasi_space_by : MeasureTrials → NameTable → System → Space Certificate
quasi_space_by by names sys =
    record { Holds = λ c. (n : ℕ) × IsQuasiFound by names sys c n; Finds = IsQuasiFound by names sys; Costs = IsQuasiCost by sys }

-- each measure of the grid is tried
abbrev pub quasi_space : NameTable → System → Space Certificate
quasi_space names sys = quasi_space_by (each_measure sys) names sys
