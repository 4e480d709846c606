use Rattle.std.proofs.Common.{map}
use Rattle.cert_model.specs.CertificateView.{linear_entry_view}
use Rattle.linear_interp.proofs.Judging.{DoFallBefore}
use Rattle.linear_interp.proofs.rules.judge_rules.Given as goal

abbrev pub invariant-loop-i : goal.invariant-loop-i
invariant-loop-i l = DoFallBefore (map linear_entry_view l.entries) l.rules l.i
