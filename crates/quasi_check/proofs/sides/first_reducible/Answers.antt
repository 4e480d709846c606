use Rattle.std.proofs.Common.{ap, map, sym, subst, length}
use Rattle.std.proofs.Common.{arith}
use Rattle.std.proofs.lemmas.List.{length-map}
use Rattle.rewriting.specs.Systems.{AreRules}
use Rattle.term_core.specs.RuleView.{condition_view, rule_view}
use Rattle.ctrs_classes.proofs.Prefixes.{rule_here, rule_number, rules_next, rules_all}
use Rattle.quasi_check.specs.Sides.{DoSidesClash}
use Rattle.quasi_check.proofs.Walks.{first_of_all, found_at, none_found}
use Rattle.quasi_check.proofs.sides.first_reducible.Goals as goal

pub first_condition-requires : goal.first_condition-requires
first_condition-requires c =
    let arities = c.args.sys.now.arities in
    let rules = c.rules-rule-items.result.now in
    let is_rule = rule_here arities rules c.loop-i.i c.rule-item.result (subst (AreRules arities) (sym c.rules-rule-items.ensures.rules) c.rules-rule-items.ensures.sound.rules)
    c.loop-i-test.true c.rule-item.is in
    let few = is_rule.few_conditions in
    let long = length-map c.rule-item.result.conds.items condition_view in
    let same = ap length c.deref.ensures.value in
    omega (arith, few, long, same)

pub returns-in-Some : goal.returns-in-Some
returns-in-Some c =
    let rule = rule_view c.rule-item.result in
    first_of_all c.args.sys.now c.loop-i.i rule c.in-Some.cond
    (rule_number c.args.sys.now c.rules-rule-items.result.now c.rules-rule-items.ensures.rules c.loop-i.i c.rule-item.result c.loop-i-test.true c.rule-item.is)
    c.loop-i.invariant (found_at c.args.sys.now (map condition_view c.deref.result.now) rule.conditions c.in_ok-cond.field-0 c.in-Some.cond c.in_ok-cond.ensures c.in-Some.is
    (ap (map condition_view) c.deref.ensures.value))

pub loop-i-preserved : goal.loop-i-preserved
loop-i-preserved c =
    let rule = rule_view c.rule-item.result in
    rules_next c.args.sys.now c.rules-rule-items.result.now c.rules-rule-items.ensures.rules (λ r. DoSidesClash c.args.sys.now r.conditions) c.loop-i.i c.rule-item.result
    c.loop-i-test.true c.rule-item.is
    (none_found c.args.sys.now (map condition_view c.deref.result.now) rule.conditions c.in_ok-cond.field-0 c.in_ok-cond.ensures c.in_default.is
    (ap (map condition_view) c.deref.ensures.value)) c.loop-i.invariant

pub returns : goal.returns
returns c =
    let all = rules_all c.args.sys.now c.rules-rule-items.result.now c.rules-rule-items.ensures.rules (λ r. DoSidesClash c.args.sys.now r.conditions) c.loop-i.i
    c.loop-i-test.false c.loop-i.invariant in
    λ i r k d is at. all i r is k d at
