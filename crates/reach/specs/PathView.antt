-- The solutions that a `Path` stands for.
use Rattle.std.specs.Prelude.{◌≡◌, ◌≤◌, ◌⊎◌, None, Some, List, [], length, map, take, drop}
use Rattle.reach_lists.specs.declared.TheConstants.{MOST_LISTED}
use Rattle.rewriting.specs.Prelude.{Term, var, app, Condition}
use Rattle.matching.specs.Trails.{without}
use Rattle.reach_lists.specs.Solutions as math
use Rattle.origins.specs.OriginView.{origin_view}
use Rattle.reach.specs.declared.solutions.Path.{Path}

abbrev pub path_view : Path → math.Solution
path_view p = record { values = p.values; by = map origin_view p.by.items }

-- a path that came back to where it was
pub record IsSamePath (p q : Path) : Type 0 where
  pub values : q.values ≡ p.values
  pub trail : q.trail.items ≡ p.trail.items
  pub by : q.by.items ≡ p.by.items

-- a path that went on, and what it comes back to
pub record IsAhead (p q : Path) : Type 0 where
  pub values : without q.values (drop (length p.trail.items) q.trail.items) ≡ p.values
  pub trail : take (length p.trail.items) q.trail.items ≡ p.trail.items
  pub by : take (length p.by.items) q.by.items ≡ p.by.items

-- a condition is met by a listed term
pub record IsEntered (c : Condition) (w : math.Reached) (p q : Path) : Type 0 where
  pub found : math.extended c (path_view p) w ≡ Some (path_view q)
  pub ahead : IsAhead p q

-- it is not
pub record IsMissed (c : Condition) (w : math.Reached) (p q : Path) : Type 0 where
  pub none : math.extended c (path_view p) w ≡ None
  pub same : IsSamePath p q

-- the root of the one is a symbol, and that of the other is another or none
abbrev pub RootsDiffer : Term → Term → Type 0
RootsDiffer (var x) t = ⊥
RootsDiffer (app f ps) (var y) = Unit {0}
RootsDiffer (app f ps) (app g ts) = f ≡ g → ⊥

-- the list takes no term and no condition is left, or a pattern does not match onto the start
abbrev pub IsNothing : List math.Reached → List Condition → Term → Term → Type 0
IsNothing l later pattern start = ((MOST_LISTED ≤ length l) × (later ≡ [])) ⊎ RootsDiffer pattern start
