-- The overlaps that a walk over entries goes along.
use Rattle.std.specs.Prelude.{List}
use Rattle.rewriting.specs.Prelude.{System, IsAmong}
use Rattle.unifier_run.specs.Overlaps.{Overlap, IsOverlapOf}

-- each of them is an overlap of the system
abbrev pub EachIsOverlap : System → List Overlap → Type 0
EachIsOverlap sys os = (o : Overlap) → IsAmong o os → IsOverlapOf sys o
