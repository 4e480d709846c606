use Rattle.cert_model.specs.CertificateView.{certificate_view}
use Rattle.check_cases.proofs.Judged.{judged_behind}
use Rattle.check_cases.proofs.behind.judged.Goals as goal

pub check-requires : goal.check-requires
check-requires c =
    judged_behind c.args.sys.now c.args.names.now _ _ (certificate_view c.args.body) c.rules_are_sound.ensures c.requires.named c.requires.spelt _ _ c.in_ok-within.ensures c.in_ok-cert.ensures
