use Rattle.std.proofs.Common.{◌≡◌, take, map}
use Rattle.cert_model.specs.DerivationView.{derivation_view}
use Rattle.origins.specs.OriginView.{origin_view}
use Rattle.origins.proofs.+derivation.Given as goal

abbrev pub invariant-derivations-origins : goal.invariant-derivations-origins
invariant-derivations-origins l = map derivation_view l.all.items ≡ map origin_view (take l.origin-index l.origins)
