use Rattle.std.proofs.lemmas.Bool.{false≢true}
use Rattle.rewriting.specs.Rules.{Rule}
use Rattle.term_core.specs.RuleView.{rule_view}
use Rattle.tree_automata.specs.Kept.{IsVariable}
use Rattle.tree_automata.proofs.Open.{rule_stands, rules_past, each_more, each_all}
use Rattle.tree_automata.proofs.sides.inclusion_if_asked.Goals as goal

pub loop-rule-preserved : goal.loop-rule-preserved
loop-rule-preserved c =
    let sys = c.args.sys.now in
    each_more (λ (r : Rule). IsVariable r.right → ⊥) sys.rules c.loop-rule.rule-index (rule_view c.rule-item.result)
    (rule_stands sys c.rules-rule-items.result.now c.loop-rule.rule-index c.rule-item.result c.rules-rule-items.ensures.rules c.loop-rule-test.true c.rule-item.is)
    (λ h. false≢true (c.if-is_variable.ensures.1 h)) c.loop-rule.invariant

pub returns : goal.returns
returns c = λ i rule at var.
    absurd
    (each_all (λ (r : Rule). IsVariable r.right → ⊥) c.args.sys.now c.loop-rule.rule-index
    (rules_past c.args.sys.now c.rules-rule-items.result.now c.loop-rule.rule-index c.rules-rule-items.ensures.rules c.loop-rule-test.false) c.loop-rule.invariant i rule at var)
