use Rattle.std.proofs.Common.{◌∙◌, sym, subst}
use Rattle.term_core.specs.RuleView.{AreCounted}
use Rattle.term_core.proofs.JoinRules.{made_is, made_is_system, joined_counted}
use Rattle.term_core.proofs.joins.join_sound.Goals as goal

pub of_parts-requires-clause-sound : goal.of_parts-requires-clause-sound
of_parts-requires-clause-sound c =
    made_is_system c.args.list c.into_parts-arities.result.0.items c.push.new.self.items c.push-2.new.self.items c.into_parts-arities.result.1.items c.in_ok-rules.rules.items c.push-3.new.self.items
    c.in_ok-last_rule_of.field-0 c.len-own.result c.into_parts-arities.ensures.arities c.into_parts-arities.ensures.rules c.in_ok-push.ensures.items c.in_ok-push-2.ensures.items
    (c.len-own.ensures ∙ c.into_parts-arities.result.0.ok.0) c.in_ok-rules.ensures.rules c.in_ok-last_rule_of.ensures.rule c.in_ok-push-3.ensures.items
    c.into_parts-arities.ensures.sound c.requires.fit c.requires.few_symbols c.requires.few_rules

pub of_parts-requires-clause-counted : goal.of_parts-requires-clause-counted
of_parts-requires-clause-counted c =
    subst AreCounted (sym c.in_ok-push-3.ensures.items)
    (joined_counted c.len-own.result c.into_parts-arities.result.1.items c.in_ok-rules.rules.items c.in_ok-last_rule_of.field-0 c.into_parts-arities.ensures.counted
    c.in_ok-rules.ensures.rules c.in_ok-rules.ensures.counted c.in_ok-last_rule_of.ensures.rule c.in_ok-last_rule_of.ensures.vars)

pub returns : goal.returns
returns c =
    c.of_parts.ensures
    ∙ made_is c.args.list c.into_parts-arities.result.0.items c.push.new.self.items c.push-2.new.self.items c.into_parts-arities.result.1.items c.in_ok-rules.rules.items c.push-3.new.self.items
    c.in_ok-last_rule_of.field-0 c.len-own.result c.into_parts-arities.ensures.arities c.into_parts-arities.ensures.rules c.in_ok-push.ensures.items c.in_ok-push-2.ensures.items
    (c.len-own.ensures ∙ c.into_parts-arities.result.0.ok.0) c.in_ok-rules.ensures.rules c.in_ok-last_rule_of.ensures.rule c.in_ok-push-3.ensures.items
