use Rattle.std.proofs.Common.{map}
use Rattle.cert_model.specs.CertificateView.{simp_view}
use Rattle.simplify.proofs.Loop.{Onward}
use Rattle.simplify.proofs.steps.simplify.Given as goal

abbrev pub invariant-turns : goal.invariant-turns
invariant-turns l = Onward l.sys (map simp_view l.steps) l.i l.current
