use Rattle.std.proofs.Common.{◌+◌, ◌-◌, ◌*◌, map, length}
use Rattle.rewriting.specs.Unraveling.{heads}
use Rattle.cert_model.specs.CertificateView.{linear_entry_view}
use Rattle.grid_search.proofs.Visits.{HasPaidTo}
use Rattle.grid_search.proofs.walk.walk_grid.Given as goal

abbrev pub invariant-visits : goal.invariant-visits
invariant-visits l = HasPaidTo l.judge l.fn.budget l.budget (map linear_entry_view l.prefix.items)

-- a visit takes a unit or goes down
abbrev pub decreases-visits : goal.decreases-visits
decreases-visits l = l.budget.left * (length (heads l.judge) + 1) + (length (heads l.judge) - length l.prefix.items)
