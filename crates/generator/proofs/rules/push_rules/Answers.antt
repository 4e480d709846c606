use Rattle.generator.proofs.Sound.{added}
use Rattle.generator.proofs.rules.push_rules.Goals as goal

pub returns : goal.returns
returns c =
    added c.args.k c.args.out.now.items c.push.new.self.items c.push-2.new.self.items c.push-3.new.self.items c.push-4.new.self.items c.in_ok-rule_at_z.field-0 c.in_ok-rule_at_s.field-0
    c.in_ok-rule_of_true.field-0 c.in_ok-rule_of_false.field-0 c.in_ok-push.ensures.items c.in_ok-push-2.ensures.items c.in_ok-push-3.ensures.items c.in_ok-push-4.ensures.items
    c.in_ok-rule_at_z.ensures c.in_ok-rule_at_s.ensures c.in_ok-rule_of_true.ensures c.in_ok-rule_of_false.ensures
