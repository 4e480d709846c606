-- The marks of a body behind the line of its kind.
use Rattle.cert_reading.proofs.Prelude.{Bool, true, false, [], ◌∷◌, Option, Some, None}
use Rattle.cert_reading.proofs.Prelude.{AreStill, Kind, Ortho, Quasi, Peak, first_marks, kind_mark}

-- its word asks nothing of shared automata
pub kind_still : (given : Option Bool) (kind : Kind) → AreStill (kind_mark given kind ∷ [])
kind_still given Ortho = (tt, tt)
kind_still given Quasi = (tt, tt)
kind_still given Peak = (tt, tt)

-- nor do the first lines
pub first_still : (given : Option Bool) (second : Bool) → AreStill (first_marks given second)
first_still None true = (tt, tt)
first_still None false = (tt, tt)
first_still (Some true) true = (tt, (tt, tt))
first_still (Some true) false = (tt, (tt, tt))
first_still (Some false) true = (tt, (tt, tt))
first_still (Some false) false = (tt, (tt, tt))
