use Rattle.std.proofs.Common.{◌∙◌, ap}
use Rattle.cert_model.specs.CertificateView.{certificate_view}
use Rattle.run_parts.specs.Answers.{verdict_text}
use Rattle.run_parts.proofs.Verdicts.{verdict_told}
use Rattle.run_parts.proofs.answers.answer_of.Goals as goal

pub returns : goal.returns
returns c = c.verdict_line.ensures ∙ (ap verdict_text c.verdict_of-verdict.ensures ∙ verdict_told (certificate_view c.args.cert.now))
