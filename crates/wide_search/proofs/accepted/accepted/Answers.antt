use Rattle.cert_model.specs.CertificateView.{certificate_view}
use Rattle.cert_check.proofs.Bounds.{within_can_be_judged}
use Rattle.wide_search.proofs.accepted.accepted.Goals as goal

pub check-requires : goal.check-requires
check-requires c =
    within_can_be_judged c.args.sys.now c.args.names.now (certificate_view c.args.cert) c.rules_are_sound.ensures c.requires.named (c.in_ok-has_text.ensures.0 c.if-not-branch.false).0.1
