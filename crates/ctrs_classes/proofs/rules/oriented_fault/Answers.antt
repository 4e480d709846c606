use Rattle.std.proofs.Common.{sym, ap, take, drop, ◌∙◌, refl}
use Rattle.ctrs_classes.proofs.Prefixes.{oriented_where, not_oriented_where}
use Rattle.ctrs_classes.proofs.rules.oriented_fault.Goals as goal

pub returns-then-shares_unknown : goal.returns-then-shares_unknown
returns-then-shares_unknown c = (
  refl,
  not_oriented_where c.args.rule.now c.known_prefix-m.result _ _ c.known_prefix-m.ensures (c.split_at.ensures.front ∙ ap (take c.known_prefix-m.result) c.deref.ensures.value)
      (c.split_at.ensures.back ∙ ap (drop c.known_prefix-m.result) c.deref.ensures.value) (sym c.shares_unknown.ensures ∙ c.if-shares_unknown.true),
)

pub returns : goal.returns
returns c =
    oriented_where c.args.rule.now c.known_prefix-m.result _ _ c.known_prefix-m.ensures (c.split_at.ensures.front ∙ ap (take c.known_prefix-m.result) c.deref.ensures.value)
    (c.split_at.ensures.back ∙ ap (drop c.known_prefix-m.result) c.deref.ensures.value) (sym c.shares_unknown.ensures ∙ c.if-shares_unknown.false)
