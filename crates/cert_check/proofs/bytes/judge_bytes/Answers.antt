use Rattle.std.proofs.Common.{ap, ◌∙◌, None}
use Rattle.cert_text.specs.OpenedText.{opened_view}
use Rattle.cert_text.proofs.OpenedViews as views
use Rattle.cert_check.proofs.Texts.{so_no}
use Rattle.cert_check.proofs.Simplified.{simplified_opened, unsimplified_answered}
use Rattle.cert_check.proofs.bytes.judge_bytes.Goals as goal

pub judge_simplified-requires : goal.judge_simplified-requires
judge_simplified-requires c = (
  c.args.names.now,
  c.args.bytes.now,
  simplified_opened c.args.sys.now c.args.names.now c.args.bytes.now (opened_view c.in_ok-opened.opened) (opened_view c.in-Simplified.body.value) (opened_view c.into_inner.result)
      c.in-Simplified.steps.items c.deref.result.now (ap opened_view c.in-Simplified.is ∙ views.simplified_opened c.in-Simplified.steps c.in-Simplified.body)
      (ap opened_view c.into_inner.ensures) c.deref.ensures.value c.requires.names c.in_ok-opened.ensures.opened,
)

pub judge_opened-requires-clause-opened : goal.judge_opened-requires-clause-opened
judge_opened-requires-clause-opened c =
    (c.args.names.now, c.args.bytes.now, None, record { named = c.requires.names; opened = c.in_ok-opened.ensures.opened })

pub returns-in-Simplified-clause-answers : goal.returns-in-Simplified-clause-answers
returns-in-Simplified-clause-answers c =
    c.judge_simplified.ensures.answers c.args.names.now c.args.bytes.now
    (simplified_opened c.args.sys.now c.args.names.now c.args.bytes.now (opened_view c.in_ok-opened.opened) (opened_view c.in-Simplified.body.value) (opened_view c.into_inner.result)
    c.in-Simplified.steps.items c.deref.result.now (ap opened_view c.in-Simplified.is ∙ views.simplified_opened c.in-Simplified.steps c.in-Simplified.body)
    (ap opened_view c.into_inner.ensures) c.deref.ensures.value c.requires.names c.in_ok-opened.ensures.opened)

pub returns-in_default-clause-answers : goal.returns-in_default-clause-answers
returns-in_default-clause-answers c =
    unsimplified_answered c.args.sys.now c.args.names.now c.args.bytes.now c.judge_opened.result
    (c.judge_opened.ensures.answers c.args.names.now c.args.bytes.now None (record { named = c.requires.names; opened = c.in_ok-opened.ensures.opened }))

pub returns-in_default-clause-no : goal.returns-in_default-clause-no
returns-in_default-clause-no c =
    so_no _ _ c.judge_opened.result
    (λ h. h c.args.names.now c.args.bytes.now None (record { named = c.requires.names; opened = c.in_ok-opened.ensures.opened }))
    c.judge_opened.ensures.no
