use Rattle.std.proofs.Common.{◌∙◌}
use Rattle.concon_run.proofs.Tests.{written_cert, never_refused_cert}
use Rattle.cert_model.specs.CertificateView.{certificate_view}
use Rattle.concon_run.proofs.selftest.reread.Goals as goal

pub returns-in-Ok : goal.returns-in-Ok
returns-in-Ok c =
    c.one_certificate.ensures c.args.names.now c.deref.result.now _ _ c.in-Ok.ensures.found
    (written_cert c.args.names.now (certificate_view c.args.cert.now) _ c.deref.result.now c.new-text.ensures.items (c.deref.ensures.value ∙ c.in_ok-write_cert.ensures.written)
    (c.written_is_read.ensures c.args.names.now (certificate_view c.args.cert.now) c.requires))

pub unreachable-requires : goal.unreachable-requires
unreachable-requires c =
    never_refused_cert c.one_answer.ensures.never_both c.args.names.now c.deref.result.now _
    (written_cert c.args.names.now (certificate_view c.args.cert.now) _ c.deref.result.now c.new-text.ensures.items (c.deref.ensures.value ∙ c.in_ok-write_cert.ensures.written)
    (c.written_is_read.ensures c.args.names.now (certificate_view c.args.cert.now) c.requires))
    c.in-Err.error c.in_default.not-NoMemory c.in-Err.ensures.refused
