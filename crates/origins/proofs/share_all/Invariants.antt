use Rattle.std.proofs.Common.{◌≡◌, take, map}
use Rattle.origins.specs.OriginView.{origin_view}
use Rattle.origins.proofs.share_all.Given as goal

abbrev pub invariant-origins : goal.invariant-origins
invariant-origins l = map origin_view l.all.items ≡ map origin_view (take l.origin-index l.origins)
