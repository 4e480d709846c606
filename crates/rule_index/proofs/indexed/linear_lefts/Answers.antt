use Rattle.std.proofs.Common.{suc, sym, subst, map, take, add-one}
use Rattle.term_core.specs.RuleView.{rule_view}
use Rattle.rule_index.specs.Linear.{TellLinear}
use Rattle.rule_index.proofs.Linear.{told_next}
use Rattle.rule_index.proofs.indexed.linear_lefts.Goals as goal

pub loop-rule-preserved : goal.loop-rule-preserved
loop-rule-preserved c =
    subst (λ k. TellLinear (map rule_view (take k c.args.rules.now)) c.push.new.self.items) (sym (add-one c.loop-rule.rule-index))
    (subst (TellLinear (map rule_view (take (suc c.loop-rule.rule-index) c.args.rules.now))) (sym c.in_ok-push.ensures.items)
    (told_next c.args.rules.now c.loop-rule.rule-index c.rule-item.result c.loop-rule.linear.items c.is_linear.result c.loop-rule-test.true c.rule-item.is c.loop-rule.invariant c.is_linear.ensures))
