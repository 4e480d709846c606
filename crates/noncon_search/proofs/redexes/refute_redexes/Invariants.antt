use Rattle.std.proofs.Common.{length, map}
use Rattle.term_core.specs.View.{view}
use Rattle.cert_model.specs.CertificateView.{redex_view}
use Rattle.noncon_search.proofs.Whole.{IsUnderWay}
use Rattle.noncon_search.proofs.redexes.refute_redexes.Given as goal

abbrev pub invariant-parts : goal.invariant-parts
invariant-parts l = IsUnderWay l.sys (view l.term) l.own l.which l.walk.rest (map redex_view l.entries.items)

abbrev pub decreases-parts : goal.decreases-parts
decreases-parts l = length l.walk.rest
