use Rattle.std.proofs.Common.{◌≡◌, ◌++◌, flat_map, length, map}
use Rattle.term_core.specs.View.{view}
use Rattle.critical_pairs.specs.Places.{place_view, part_places, places_of}
use Rattle.critical_pairs.proofs.places.places.Given as goal

abbrev pub invariant-parts : goal.invariant-parts
invariant-parts l = map place_view l.out.items ++ flat_map part_places l.walk.rest ≡ places_of (view l.left)

abbrev pub decreases-parts : goal.decreases-parts
decreases-parts l = length l.walk.rest
