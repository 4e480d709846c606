use Rattle.std.proofs.Common.{◌≡◌, ◌+◌, drop}
use Rattle.rewriting.specs.Unraveling.{index_in}
use Rattle.unravel.proofs.sides.place.Given as goal

abbrev pub invariant-loop-y : goal.invariant-loop-y
invariant-loop-y l = record { counted : l.place ≡ l.y-index; left : index_in l.order l.x ≡ l.place + index_in (drop l.y-index l.order) l.x }
