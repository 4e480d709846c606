use Rattle.std.proofs.Common.{ℕ, map, length}
use Rattle.rewriting.specs.Rules.{System}
use Rattle.cert_model.specs.CertificateView.{linear_entry_view}
use Rattle.grid_search.specs.Walks.{HasDoneWith}
use Rattle.grid_search.proofs.walk.go_on.Given as goal

abbrev pub invariant-back : goal.invariant-back
invariant-back l = (sys : System) (n : ℕ) → HasDoneWith sys (map linear_entry_view l.fn.prefix.items) n → HasDoneWith sys (map linear_entry_view l.prefix.items) n

abbrev pub decreases-back : goal.decreases-back
decreases-back l = length l.prefix.items
