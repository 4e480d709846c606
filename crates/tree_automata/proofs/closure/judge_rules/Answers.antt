use Rattle.std.proofs.Common.{◌+◌, ℕ, Some, refl, ap, subst}
use Rattle.term_core.specs.RuleView.{rule_view}
use Rattle.cert_model.specs.EvidenceView.{automaton_view}
use Rattle.automaton_runs.specs.Counted.{Indexed}
use Rattle.tree_automata.specs.Open.{IsRuleClosed, OpenAnswers}
use Rattle.tree_automata.proofs.Open.{rule_stands, rules_past, left_fits, numbered, all_closed, first_open_of, each_more, each_in_front}
use Rattle.tree_automata.proofs.closure.judge_rules.Goals as goal

pub first_open_of_rule-requires-clause-fits : goal.first_open_of_rule-requires-clause-fits
first_open_of_rule-requires-clause-fits c =
    left_fits c.args.sys.now c.rules.rule-index (rule_view c.rule-item.result) c.rules-rules.ensures.sound
    (rule_stands c.args.sys.now c.rules-rules.result.now c.rules.rule-index c.rule-item.result c.rules-rules.ensures.rules c.rules-test.true c.rule-item.is)

pub first_open_of_rule-requires-clause-asked : goal.first_open_of_rule-requires-clause-asked
first_open_of_rule-requires-clause-asked c =
    let sys = c.args.sys.now in
    let r = rule_view c.rule-item.result in
    let at = rule_stands sys c.rules-rules.result.now c.rules.rule-index c.rule-item.result c.rules-rules.ensures.rules c.rules-test.true c.rule-item.is in
    c.in_ok-inclusion.ensures (c.rules.rule-index + 1) r (numbered sys c.rules.rule-index (c.rules.rule-index + 1) r refl at)

pub first_open_of_rule-requires-clause-earlier : goal.first_open_of_rule-requires-clause-earlier
first_open_of_rule-requires-clause-earlier c = each_in_front (IsRuleClosed c.args.index.now) c.args.sys.now c.rules-rules.result.now c.rules.rule-index c.rules.number
    c.rules-rules.ensures.rules c.rules.invariant.counted c.rules.invariant.closed

pub returns-in-Some : goal.returns-in-Some
returns-in-Some c =
    let sys = c.args.sys.now in
    let a = c.args.index.now in
    let r = rule_view c.rule-item.result in
    let at = rule_stands sys c.rules-rules.result.now c.rules.rule-index c.rule-item.result c.rules-rules.ensures.rules c.rules-test.true c.rule-item.is in
    first_open_of sys (automaton_view c.args.a.now) c.rules.rule-index (c.rules.number + 1) r c.in-Some.arrival.choice.items c.in-Some.arrival.state
    (ap (λ (k : ℕ). k + 1) c.rules.invariant.counted) at
    (subst (λ (x : Indexed). OpenAnswers x r (Some c.in-Some.arrival)) c.requires.index
    (subst (OpenAnswers a r) c.in-Some.is c.in_ok-first_open_of_rule.ensures))
    (λ k q l e. subst (λ (x : Indexed). IsRuleClosed x q) c.requires.index (c.rules.invariant.closed k q l e))

pub rules-preserved : goal.rules-preserved
rules-preserved c =
    let sys = c.args.sys.now in
    let a = c.args.index.now in
    let r = rule_view c.rule-item.result in
    let at = rule_stands sys c.rules-rules.result.now c.rules.rule-index c.rule-item.result c.rules-rules.ensures.rules c.rules-test.true c.rule-item.is in
    record {
      counted = ap (λ (k : ℕ). k + 1) c.rules.invariant.counted;
      closed =
          each_more (IsRuleClosed a) sys.rules c.rules.rule-index r at
          (subst (OpenAnswers a r) c.in-None.is c.in_ok-first_open_of_rule.ensures) c.rules.invariant.closed;
    }

pub returns : goal.returns
returns c =
    all_closed c.args.sys.now (automaton_view c.args.a.now) c.rules.rule-index (rules_past c.args.sys.now c.rules-rules.result.now c.rules.rule-index c.rules-rules.ensures.rules c.rules-test.false)
    (λ k q l e. subst (λ (x : Indexed). IsRuleClosed x q) c.requires.index (c.rules.invariant.closed k q l e))
