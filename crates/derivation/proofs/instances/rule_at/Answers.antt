use Rattle.std.proofs.Common.{◌∙◌, ap, refl, ◌-◌, slice_get}
use Rattle.rewriting.specs.Rules.{rule_at}
use Rattle.term_core.specs.RuleView.{rule_view}
use Rattle.cert_model.proofs.ByNumber.{got, numbered}
use Rattle.derivation.proofs.Numbers.{judgable}
use Rattle.derivation.proofs.instances.rule_at.Goals as goal

pub returns-clause-rule : goal.returns-clause-rule
returns-clause-rule c =
    let e = c.get.ensures.lookup in
    got rule_view c.rules.result.now (c.args.number - 1) c.get.result e.0 e.1
    ∙ ap (λ rs. slice_get rs (c.args.number - 1)) c.rules.ensures.rules
    ∙ numbered c.args.sys.now.rules (rule_at c.args.sys.now) (λ i. refl) c.args.number c.if-number-eq0.false

pub returns-clause-good : goal.returns-clause-good
returns-clause-good c =
    let e = c.get.ensures.lookup in
    judgable c.args.sys.now (c.args.number - 1) c.get.result c.rules.ensures.sound
    (got rule_view c.rules.result.now (c.args.number - 1) c.get.result e.0 e.1 ∙ ap (λ rs. slice_get rs (c.args.number - 1)) c.rules.ensures.rules)
