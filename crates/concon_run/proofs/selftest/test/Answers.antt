use Rattle.std.proofs.Common.{◌*◌, refl, ◌∙◌, arith}
use Rattle.generated_systems.specs.Certificate.{generated_certificate}
use Rattle.concon_run.proofs.Tests.{certificate_found, certificate_spelt, certificate_judged, passed}
use Rattle.concon_run.proofs.selftest.test.Goals as goal

pub find-requires : goal.find-requires
find-requires c = (
  generated_certificate c.args.n,
  3 * c.args.n,
  certificate_found c.in_ok-sys.names c.args.n c.requires.most c.generated_systems_have_certificates.ensures.found c.in_ok-sys.sys c.in_ok-sys.ensures.0,
  (let most = c.requires.most in omega (arith, most)),
)

pub reread-requires : goal.reread-requires
reread-requires c =
    let is = c.in_ok-found.ensures.found _ _ (certificate_found c.in_ok-sys.names c.args.n c.requires.most c.generated_systems_have_certificates.ensures.found c.in_ok-sys.sys c.in_ok-sys.ensures.0) in
    certificate_spelt c.in_ok-sys.names c.args.n c.requires.most c.generated_systems_have_certificates.ensures.text _ is.0

pub verdict_on-requires-clause-judged : goal.verdict_on-requires-clause-judged
verdict_on-requires-clause-judged c =
    let is = c.in_ok-found.ensures.found _ _ (certificate_found c.in_ok-sys.names c.args.n c.requires.most c.generated_systems_have_certificates.ensures.found c.in_ok-sys.sys c.in_ok-sys.ensures.0) in
    certificate_judged c.args.n c.in_ok-sys.sys _ (c.in_ok-cert.ensures ∙ is.0)

pub returns : goal.returns
returns c =
    let is = c.in_ok-found.ensures.found _ _ (certificate_found c.in_ok-sys.names c.args.n c.requires.most c.generated_systems_have_certificates.ensures.found c.in_ok-sys.sys c.in_ok-sys.ensures.0) in
    passed c.args.n c.in_ok-sys.sys c.rules.result.now _ _ _ c.in_ok-sys.ensures.0 c.rules.ensures.rules c.in_ok-cert.ensures is.0 refl c.pair_count.ensures c.in_ok-verdict.ensures is.1
