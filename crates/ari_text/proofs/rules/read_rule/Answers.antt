use Rattle.ari_text.proofs.Conditions.{rule_read}
use Rattle.ari_text.proofs.rules.read_rule.Goals as goal

pub returns-clause-rule : goal.returns-clause-rule
returns-clause-rule c = rule_read c.args.reader.now c.read_term.new.reader c.read_term-2.new.reader c.read_conditions.new.reader _ _ _ _ _ c.new-left.ensures.items
    c.new-right.ensures.items c.in_ok-read_term.ensures.term c.in_ok-read_term-2.ensures.term c.in_ok-rule.ensures.conditions
