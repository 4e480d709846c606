-- Laws of the grid, and of the pruned one.
use Rattle.std.specs.Prelude.{ℕ, ◌≤◌, ◌++◌, length}
use Rattle.rewriting.specs.Prelude.{IsAmong, System}
use Rattle.certificates.specs.Certificates.{MeasureCertificate}
use Rattle.interpretations.specs.Linear.{Interpretation, HasShape, AreAllNumbersGood, IsGood}
use Rattle.first_found.specs.Items.{NoneGives, IsFirst, one}
use Rattle.first_found.specs.Trees.{EndsOnce}
use Rattle.measure_grid.specs.Grid.{grid, GivesMeasure}
use Rattle.measure_grid.specs.Dead.{IsDead}
use Rattle.measure_grid.specs.Pruned.{IsPrunedFirst, IsPrunedBarren, IsPrunedWhole}

-- each interpretation of the grid has an entry for each symbol, and good numbers: the rules alone are left to be judged
abbrev pub GridsAreInShape : Type 0
GridsAreInShape = (sys : System) (es : Interpretation) → IsAmong es (grid sys) → HasShape sys es × AreAllNumbersGood sys es

-- no good interpretation begins with a dead prefix
abbrev pub DeadPrefixesAreBarren : Type 0
DeadPrefixesAreBarren = (sys : System) (es more : Interpretation) → IsDead sys es → IsGood sys (es ++ more) → ⊥

-- the first good one is the first of the grid, and the units up to it are at most its place
abbrev pub PrunedFirstsAreFirsts : Type 0
PrunedFirstsAreFirsts =
    (sys : System) (m : MeasureCertificate) (n : ℕ) → IsPrunedFirst sys m n
    → (k : ℕ) × IsFirst one (GivesMeasure sys) (grid sys) m k × (n ≤ k)

-- where there is none, the grid has none, and the units are at most its size
abbrev pub PrunedGridsAreBarren : Type 0
PrunedGridsAreBarren = (sys : System) (n : ℕ) → IsPrunedBarren sys n → NoneGives (GivesMeasure sys) (grid sys) × (n ≤ length (grid sys))

-- the units of the whole are one number
abbrev pub PrunedGridsEndOnce : Type 0
PrunedGridsEndOnce = (sys : System) → EndsOnce (IsPrunedWhole sys)
