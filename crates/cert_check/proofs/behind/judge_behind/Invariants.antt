use Rattle.cert_model.specs.CertificateView.{certificate_view}
use Rattle.cert_check.proofs.Levels.{StandsBehind, levels_of}
use Rattle.cert_check.proofs.behind.judge_behind.Given as goal

abbrev pub invariant-levels : goal.invariant-levels
invariant-levels l = StandsBehind l.sys (certificate_view l.cert) l.last (certificate_view l.body)

abbrev pub decreases-levels : goal.decreases-levels
decreases-levels l = levels_of (certificate_view l.body)
