use Rattle.cert_model.specs.CertificateView.{peak_view}
use Rattle.cert_check.proofs.Levels.{apart_so}
use Rattle.cert_check.proofs.check_apart.Goals as goal

pub returns-clause-apart : goal.returns-clause-apart
returns-clause-apart c = apart_so c.args.sys.now (peak_view c.args.peak.now) c.check_peak.result c.check_peak.ensures.sound
