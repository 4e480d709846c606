use Rattle.cert_model.specs.CertificateView.{peak_view}
use Rattle.noncon_check.proofs.Apart.{peak_sound}
use Rattle.noncon_check.proofs.peaks.check_peak.Goals as goal

pub returns-clause-sound : goal.returns-clause-sound
returns-clause-sound c =
    peak_sound c.valid_peaks_reach_apart.ensures c.args.sys.now (peak_view c.args.peak.now) c.rules_are_sound.ensures c.requires.over c.judge_peak.result c.judge_peak.ensures
