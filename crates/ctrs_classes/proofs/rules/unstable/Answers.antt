use Rattle.std.proofs.Common.{◌∙◌, ◌+◌, ap, take, refl}
use Rattle.std.proofs.lemmas.Bool.{false≢true}
use Rattle.ctrs_classes.proofs.Firsts.{old_found, none_old}
use Rattle.ctrs_classes.proofs.rules.unstable.Goals as goal

pub returns-in-Some : goal.returns-in-Some
returns-in-Some c =
    old_found c.args.rule.now c.args.i _ _ (c.split_at-2.ensures.front ∙ ap (take (c.args.i + 1)) c.deref-2.ensures.value)
    (c.split_at.ensures.front ∙ ap (take c.args.i) c.deref.ensures.value) _ _ c.in-Some.ensures

pub returns-then-is_stable : goal.returns-then-is_stable
returns-then-is_stable c = (
  none_old c.args.rule.now c.args.i _ _ (c.split_at-2.ensures.front ∙ ap (take (c.args.i + 1)) c.deref-2.ensures.value)
      (c.split_at.ensures.front ∙ ap (take c.args.i) c.deref.ensures.value) c.args.cond.now c.in_default.ensures,
  c.if-is_stable.ensures.0 refl,
)

pub returns : goal.returns
returns c = (
  none_old c.args.rule.now c.args.i _ _ (c.split_at-2.ensures.front ∙ ap (take (c.args.i + 1)) c.deref-2.ensures.value)
      (c.split_at.ensures.front ∙ ap (take c.args.i) c.deref.ensures.value) c.args.cond.now c.in_default.ensures,
  λ s. false≢true (c.if-is_stable.ensures.1 s),
)
