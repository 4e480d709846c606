use Rattle.std.proofs.Common.{refl, sym, subst, arith}
use Rattle.rewriting.specs.Systems.{AreRules}
use Rattle.term_core.specs.RuleView.{rule_view}
use Rattle.cert_model.specs.ReasonView.{class_view}
use Rattle.certificates.specs.Blames.{IsInClass}
use Rattle.ctrs_classes.proofs.Prefixes.{rule_here, rule_number, rules_next, rules_all}
use Rattle.ctrs_classes.proofs.classes.why_not.Goals as goal

pub fault_of-requires : goal.fault_of-requires
fault_of-requires c =
    rule_here c.args.sys.now.arities c.rules-rule-items.result.now c.loop-i.i c.rule-item.result
    (subst (λ rs. AreRules c.args.sys.now.arities rs) (sym c.rules-rule-items.ensures.rules) c.rules-rule-items.ensures.sound.rules) c.loop-i-test.true c.rule-item.is

pub returns-in-Some : goal.returns-in-Some
returns-in-Some c = (
  refl,
  record {
    rule = rule_view c.rule-item.result;
    is_rule = rule_number c.args.sys.now c.rules-rule-items.result.now c.rules-rule-items.ensures.rules c.loop-i.i c.rule-item.result c.loop-i-test.true c.rule-item.is;
    good_before = λ k r less e. c.loop-i.invariant k r (omega (arith, less)) e;
    fails = c.in-Some.ensures;
  },
)

pub loop-i-preserved : goal.loop-i-preserved
loop-i-preserved c =
    rules_next c.args.sys.now c.rules-rule-items.result.now c.rules-rule-items.ensures.rules (λ r. IsInClass c.args.sys.now (class_view c.args.class) r) c.loop-i.i
    c.rule-item.result c.loop-i-test.true
    c.rule-item.is c.in_default.ensures c.loop-i.invariant

pub returns : goal.returns
returns c =
    rules_all c.args.sys.now c.rules-rule-items.result.now c.rules-rule-items.ensures.rules (λ r. IsInClass c.args.sys.now (class_view c.args.class) r) c.loop-i.i
    c.loop-i-test.false c.loop-i.invariant
