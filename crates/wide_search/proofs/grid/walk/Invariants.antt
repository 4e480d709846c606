use Rattle.std.proofs.Common.{map}
use Rattle.cert_model.specs.CertificateView.{linear_entry_view}
use Rattle.wide_search.specs.Prefixes.{IsNext}
use Rattle.wide_search.proofs.grid.walk.Given as goal

abbrev pub invariant-visits : goal.invariant-visits
invariant-visits l = IsNext l.judge (map linear_entry_view l.prefix.items)

abbrev pub decreases-visits : goal.decreases-visits
decreases-visits l = l.budget.left
