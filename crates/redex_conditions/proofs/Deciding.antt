-- A pattern matches exactly where it is decided to match.
use Rattle.std.proofs.Common.{◌≡◌, true, Option, None, Some, is_some, refl, ap}
use Rattle.std.proofs.lemmas.Bool.{false≢true}
use Rattle.std.specs.FinMap.{empty}
use Rattle.rewriting.specs.Prelude.{Bindings, Matches, values_of, match_onto}
use Rattle.rewriting.proofs.Common.{Term}
use Rattle.rewriting.proofs.Matched.{instance_matched}
use Rattle.rewriting.proofs.Matching.{solved_instance}
use Rattle.rewriting.proofs.MatchedOnto.{found_least, least_found}

pub match_decided : (p s : Term) → Matches p s → is_some (match_onto empty p s) ≡ true
match_decided p s h = let m = instance_matched p s h in ap is_some (least_found empty m.0 p s m.1)

pub match_found : (p s : Term) → is_some (match_onto empty p s) ≡ true → Matches p s
match_found p s e = go (match_onto empty p s) refl e
  where
    go : (o : Option Bindings) → match_onto empty p s ≡ o → is_some o ≡ true → Matches p s
    go None is h = absurd (false≢true h)
    go (Some m) is h = (values_of m, solved_instance m p s (found_least empty m p s is).solves)
