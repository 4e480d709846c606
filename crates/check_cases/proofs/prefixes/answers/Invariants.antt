use Rattle.std.proofs.Common.{◌≡◌, map, length}
use Rattle.cert_model.specs.CertificateView.{linear_entry_view}
use Rattle.grid_search.specs.Prefix.{HasPrefix}
use Rattle.check_cases.proofs.prefixes.answers.Given as goal

abbrev pub invariant-symbols : goal.invariant-symbols
invariant-symbols l = (length l.prefix.items ≡ l.symbol) × HasPrefix l.unraveled (map linear_entry_view l.prefix.items)
