use Rattle.std.proofs.Common.{map, length}
use Rattle.rewriting.specs.Rules.{System}
use Rattle.cert_model.specs.CertificateView.{linear_entry_view}
use Rattle.wide_search.specs.Prefixes.{IsNext}
use Rattle.wide_search.proofs.grid.go_on.Given as goal

abbrev pub invariant-back : goal.invariant-back
invariant-back l = (sys : System) → IsNext sys (map linear_entry_view l.fn.prefix.items) → IsNext sys (map linear_entry_view l.prefix.items)

abbrev pub decreases-back : goal.decreases-back
decreases-back l = length l.prefix.items
