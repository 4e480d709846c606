use Rattle.std.proofs.Common.{map, ap, ◌∙◌}
use Rattle.origins.specs.OriginView.{origin_view}
use Rattle.origins.proofs.Deriving.{rule_made, hypothesis_made}
use Rattle.origins.proofs.+derivation.Goals as goal

pub made-returns-in_ok-push-in-Rule : goal.made-returns-in_ok-push-in-Rule
made-returns-in_ok-push-in-Rule t c =
    rule_made c.args.way.now c.in-Rule.from c.in-Rule.rule c.in-Rule.pos c.in_ok-copy_numbers-in-Rule.field-0 c.in-Rule.conds c.in_ok-derivations-in-Rule.field-0
    c.in_ok-by-in-Rule.by.steps c.push.new.self
    c.in-Rule.is c.in_ok-by-in-Rule.ensures (c.in_ok-copy_numbers-in-Rule.ensures ∙ c.deref.ensures.value)
    (c.in_ok-derivations-in-Rule.ensures ∙ ap (map origin_view) c.deref-in-Rule.ensures.value) c.in_ok-push-in-Rule.ensures.items

pub made-returns-in_ok-push-in-Hyp : goal.made-returns-in_ok-push-in-Hyp
made-returns-in_ok-push-in-Hyp t c =
    hypothesis_made c.args.way.now c.in-Hyp.from c.in-Hyp.number c.in-Hyp.pos c.in_ok-copy_numbers-in-Hyp.field-0 c.in_ok-by-in-Hyp.by.steps c.push-in-Hyp.new.self c.in-Hyp.is
    c.in_ok-by-in-Hyp.ensures (c.in_ok-copy_numbers-in-Hyp.ensures ∙ c.deref-in-Hyp.ensures.value) c.in_ok-push-in-Hyp.ensures.items
