use Rattle.std.proofs.Common.{map}
use Rattle.cert_model.specs.CertificateView.{linear_entry_view}
use Rattle.linear_interp.proofs.Judging.{HoldsBefore}
use Rattle.grid_search.proofs.Prefixes.{DoesFallWithin}
use Rattle.grid_search.proofs.prefix.check_prefix.Given as goal

abbrev pub invariant-rules : goal.invariant-rules
invariant-rules l = HoldsBefore (DoesFallWithin (map linear_entry_view l.prefix)) l.rule-items l.rule-index
