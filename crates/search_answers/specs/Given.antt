-- The overlaps that a search is handed.
use Rattle.std.specs.Prelude.{List, map, Option, None, Some, Vec}
use Rattle.std.specs.Borrow.{Bor}
use Rattle.std.specs.Global.{Global}
use Rattle.rewriting.specs.Rules.{System}
use Rattle.unifier_run.specs.Overlaps as math
use Rattle.unifier_run.specs.Overlaps.{AreOverlaps}
use Rattle.critical_pairs.specs.declared.Overlap.{Overlap}
use Rattle.critical_pairs.specs.View.{overlap_view}

-- the overlaps of the system, or none where they have no list
abbrev pub IsOverlapList : System → Option (Bor (List Overlap)) → Type 0
IsOverlapList sys (Some os) = AreOverlaps sys (map overlap_view os.now)
IsOverlapList sys None = (os : List math.Overlap) → AreOverlaps sys os → ⊥

-- the same of a list that was made
abbrev pub HasOverlaps : System → Option (Vec Overlap Global) → Type 0
HasOverlaps sys (Some os) = AreOverlaps sys (map overlap_view os.items)
HasOverlaps sys None = (os : List math.Overlap) → AreOverlaps sys os → ⊥
