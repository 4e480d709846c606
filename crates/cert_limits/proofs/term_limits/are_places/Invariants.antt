use Rattle.cert_limits.proofs.Prelude.{drop, ◌↔◌, ArePlaces}
use Rattle.cert_limits.proofs.term_limits.are_places.Given as goal

abbrev pub invariant-places : goal.invariant-places
invariant-places l = ArePlaces l.pos ↔ ArePlaces (drop l.place-index l.pos)
