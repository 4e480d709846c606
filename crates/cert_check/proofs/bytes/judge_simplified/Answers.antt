use Rattle.std.proofs.Common.{sym, subst, map, Some, Err}
use Rattle.rewriting.specs.Confluence.{IsConfluent}
use Rattle.term_core.proofs.Rules.{handed_on}
use Rattle.cert_model.specs.CertificateView.{simp_view}
use Rattle.cert_text.specs.OpenedText.{opened_view}
use Rattle.cert_check.specs.Answers.{StepsAnswer, OnYes, OnNo}
use Rattle.cert_check.specs.Bytes.{BytesAnswers}
use Rattle.cert_check.proofs.Simplified.{bare_behind, opened_for_last, simplified_answered, simplified_yes, simplified_no, ApartBefore, told, step_answered}
use Rattle.cert_check.proofs.bytes.judge_simplified.Goals as goal

pub judge_opened-requires-clause-bare : goal.judge_opened-requires-clause-bare
judge_opened-requires-clause-bare c = bare_behind c.requires.0 c.requires.1 (map simp_view c.args.steps.now) (opened_view c.args.body) c.requires.2.opened

pub judge_opened-requires-clause-opened : goal.judge_opened-requires-clause-opened
judge_opened-requires-clause-opened c =
    let steps = map simp_view c.args.steps.now in (
      c.requires.0,
      c.requires.1,
      Some steps,
      opened_for_last c.args.sys.now c.in-Ok.last steps c.rules_are_sound.ensures c.in-Ok.ensures c.requires.0 c.requires.1 (opened_view c.args.body) c.requires.2,
    )

pub returns-in-Ok-clause-answers : goal.returns-in-Ok-clause-answers
returns-in-Ok-clause-answers c = λ names bytes o.
    let steps = map simp_view c.args.steps.now in
    let good = c.rules_are_sound.ensures in
    subst (BytesAnswers c.args.sys.now names bytes) (sym c.of_body.ensures)
    (simplified_answered c.args.sys.now c.in-Ok.last steps good c.in-Ok.ensures names bytes c.judge_opened.result
    (c.judge_opened.ensures.answers names bytes (Some steps) (opened_for_last c.args.sys.now c.in-Ok.last steps good c.in-Ok.ensures names bytes (opened_view c.args.body) o)))

pub returns-in-Ok-clause-yes : goal.returns-in-Ok-clause-yes
returns-in-Ok-clause-yes c =
    subst (λ r. OnYes r (IsConfluent c.args.sys.now)) (sym c.of_body.ensures)
    (simplified_yes c.args.sys.now c.in-Ok.last (map simp_view c.args.steps.now) c.rules_are_sound.ensures c.in-Ok.ensures c.judge_opened.result c.judge_opened.ensures.yes)

pub returns-in-Ok-clause-no : goal.returns-in-Ok-clause-no
returns-in-Ok-clause-no c =
    let steps = map simp_view c.args.steps.now in
    let good = c.rules_are_sound.ensures in
    subst (λ r. OnNo r (ApartBefore c.args.sys.now c.in-Ok.last steps good c.in-Ok.ensures (opened_view c.args.body))) (sym c.of_body.ensures)
    (simplified_no c.args.sys.now c.in-Ok.last steps good c.in-Ok.ensures (opened_view c.args.body) c.judge_opened.result c.judge_opened.ensures.no)

pub read_on-requires-clause-bare : goal.read_on-requires-clause-bare
read_on-requires-clause-bare c = bare_behind c.requires.0 c.requires.1 (map simp_view c.args.steps.now) (opened_view c.args.body) c.requires.2.opened

pub read_on-requires-clause-opened : goal.read_on-requires-clause-opened
read_on-requires-clause-opened c = (c.requires.0, c.requires.1, Some (map simp_view c.args.steps.now), c.requires.2.opened)

pub returns-in_err-read_on-in-Err-Rejected-clause-answers : goal.returns-in_err-read_on-in-Err-Rejected-clause-answers
returns-in_err-read_on-in-Err-Rejected-clause-answers c = λ names bytes o.
    subst (BytesAnswers c.args.sys.now names bytes) (sym (handed_on _ _ c.from_residual.ensures.1))
    (told c.args.sys.now names bytes c.in_err-read_on-in-Err-Rejected.field-0.0 (c.in_err-read_on-in-Err-Rejected.ensures names bytes (Some (map simp_view c.args.steps.now)) o.opened))

pub returns-in_ok-read_on-in-Err-Rejected-clause-answers : goal.returns-in_ok-read_on-in-Err-Rejected-clause-answers
returns-in_ok-read_on-in-Err-Rejected-clause-answers c = λ names bytes o.
    step_answered c.args.sys.now names bytes (map simp_view c.args.steps.now) c.in-Err-Rejected.reason
    (subst (λ e. StepsAnswer c.args.sys.now (map simp_view c.args.steps.now) (Err e)) c.in-Err-Rejected.field-0-is c.in-Err-Rejected.ensures)
    (c.in_ok-read_on-in-Err-Rejected.ensures names bytes (Some (map simp_view c.args.steps.now)) o.opened)
