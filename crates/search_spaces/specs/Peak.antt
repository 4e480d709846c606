-- The space of certificates that a system is not confluent: one certificate at most for each item.
use Rattle.std.specs.Prelude.{ℕ, ◌≡◌, ◌⊎◌, List, ◌++◌, map}
use Rattle.rewriting.specs.Prelude.{IsAmong, Term, System}
use Rattle.unifier_run.specs.Overlaps.{Overlap, AreOverlaps}
use Rattle.certificates.specs.Certificates.{Certificate}
use Rattle.cops_names.specs.NameTable.{NameTable}
use Rattle.first_found.specs.Items.{IsFirst, cost_of}
use Rattle.first_found.specs.Spaces.{Space}
use Rattle.search_spaces.specs.PeakItems.{PeakItem, peak_item_cost, peak_items, HoldsPeak, GivesPeak}

-- the left sides of the rules, and the sources of the overlaps, if these have a list
abbrev pub AreStarts : System → List Term → Type 0
AreStarts sys ts =
    ((os : List Overlap) × AreOverlaps sys os × (ts ≡ map (λ r. r.left) sys.rules ++ map (λ o. o.pair.source) os))
    ⊎ (((os : List Overlap) → AreOverlaps sys os → ⊥) × (ts ≡ map (λ r. r.left) sys.rules))

-- the items in order
abbrev pub ArePeakItems : System → List PeakItem → Type 0
ArePeakItems sys items = (ts : List Term) × AreStarts sys ts × (items ≡ peak_items sys ts)

pub record IsPeakHeld (names : NameTable) (sys : System) (c : Certificate) : Type 0 where
  pub items : List PeakItem
  pub are : ArePeakItems sys items
  pub item : PeakItem
  pub listed : IsAmong item items
  pub holds : HoldsPeak names sys item c

-- the first item whose certificate is valid
pub record IsPeakFound (names : NameTable) (sys : System) (c : Certificate) (n : ℕ) : Type 0 where
  pub items : List PeakItem
  pub are : ArePeakItems sys items
  pub first : IsFirst peak_item_cost (GivesPeak names sys) items c n

abbrev pub IsPeakCost : System → ℕ → Type 0
IsPeakCost sys n = (items : List PeakItem) × ArePeakItems sys items × (n ≡ cost_of peak_item_cost items)

abbrev pub peak_space : NameTable → System → Space Certificate
peak_space names sys = record { Holds = IsPeakHeld names sys; Finds = IsPeakFound names sys; Costs = IsPeakCost sys }
