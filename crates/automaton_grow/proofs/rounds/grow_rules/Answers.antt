use Rattle.std.proofs.Common.{◌≡◌, map, length, subst, sym, arith}
use Rattle.term_core.specs.Prelude.{view, rule_view}
use Rattle.term_core.proofs.Rules.{handed_on}
use Rattle.cert_model.specs.EvidenceView.{transition_view}
use Rattle.automata.specs.Growth.{HasStates}
use Rattle.automaton_grow.proofs.States.{room_at}
use Rattle.automaton_grow.proofs.Rules.{first_zero, first_next, first_low, rule_of, sides_fit, rule_low, narrow_at, same_count}
use Rattle.automaton_grow.proofs.Parts.{rules_begin, rules_next, rules_error, rules_end}
use Rattle.automaton_grow.proofs.rounds.grow_rules.Goals as goal

pub loop-rule-init : goal.loop-rule-init
loop-rule-init c = record {
  first = first_zero c.args.sys.now (view c.args.s.now) c.inner-first.result c.inner-first.ensures;
  added = rules_begin c.args.sys.now (view c.args.s.now) (map transition_view c.args.current.now.transitions.items) (map transition_view c.args.next.now.items) c.requires.sorted c.requires.few;
}

pub grow_rule-requires-clause-fits : goal.grow_rule-requires-clause-fits
grow_rule-requires-clause-fits c = (sides_fit c.args.sys.now c.rules-rules.result.now c.rules-rules.ensures.rules c.loop-rule.rule-index c.rule-item.result c.loop-rule-test.true
    c.rule-item.is c.rules-rules.ensures.sound).0

pub grow_rule-requires-clause-narrow : goal.grow_rule-requires-clause-narrow
grow_rule-requires-clause-narrow c =
    narrow_at c.args.current.now.states c.args.sys.now.rules c.loop-rule.rule-index (rule_view c.rule-item.result) c.requires.narrow
    (rule_of c.args.sys.now c.rules-rules.result.now c.rules-rules.ensures.rules c.loop-rule.rule-index c.rule-item.result c.loop-rule-test.true c.rule-item.is)

pub grow_rule-requires-clause-states : goal.grow_rule-requires-clause-states
grow_rule-requires-clause-states c = λ d h. subst (λ z. HasStates z d) (sym c.requires.states) (c.requires.partial.states d h)

pub grow_rule-requires-clause-room : goal.grow_rule-requires-clause-room
grow_rule-requires-clause-room c =
    let at = rule_of c.args.sys.now c.rules-rules.result.now c.rules-rules.ensures.rules c.loop-rule.rule-index c.rule-item.result c.loop-rule-test.true c.rule-item.is in
    let fit = sides_fit c.args.sys.now c.rules-rules.result.now c.rules-rules.ensures.rules c.loop-rule.rule-index c.rule-item.result c.loop-rule-test.true c.rule-item.is
    c.rules-rules.ensures.sound in
    omega (
      arith,
      first_low c.args.sys.now (view c.args.s.now) c.loop-rule.rule-index (rule_view c.rule-item.result) c.args.current.now.states c.loop-rule.first at
          c.loop-rule.invariant.first c.requires.states,
      fit.1.nodes,
      c.requires.most,
    )

pub returns-in_err-grow_rule : goal.returns-in_err-grow_rule
returns-in_err-grow_rule c =
    let at = rule_of c.args.sys.now c.rules-rules.result.now c.rules-rules.ensures.rules c.loop-rule.rule-index c.rule-item.result c.loop-rule-test.true c.rule-item.is in
    let low = rule_low c.args.sys.now c.rules-rules.result.now c.rules-rules.ensures.rules c.loop-rule.rule-index c.rule-item.result c.loop-rule-test.true c.rule-item.is in
    rw (handed_on _ _ c.from_residual.ensures.1)
    (rules_error c.args.sys.now (view c.args.s.now) (map transition_view c.args.current.now.transitions.items) c.loop-rule.rule-index (rule_view c.rule-item.result) at
    c.args.current.now.states c.loop-rule.first c.requires.states c.loop-rule.invariant.first
    (map transition_view c.args.next.now.items) (map transition_view c.loop-rule.next.items) (map transition_view c.grow_rule.new.next.items) c.in_err-grow_rule.field-0.0 low
    c.loop-rule.invariant.added c.in_err-grow_rule.ensures)

pub proper-first-requires : goal.proper-first-requires
proper-first-requires c =
    let fit = sides_fit c.args.sys.now c.rules-rules.result.now c.rules-rules.ensures.rules c.loop-rule.rule-index c.rule-item.result c.loop-rule-test.true c.rule-item.is
    c.rules-rules.ensures.sound in
    omega (arith, fit.1.nodes)

pub overflow_add-first-in-loop-rule : goal.overflow_add-first-in-loop-rule
overflow_add-first-in-loop-rule c =
    let at = rule_of c.args.sys.now c.rules-rules.result.now c.rules-rules.ensures.rules c.loop-rule.rule-index c.rule-item.result c.loop-rule-test.true c.rule-item.is in
    omega (
      arith,
      room_at c.args.sys.now (view c.args.s.now) c.loop-rule.rule-index (rule_view c.rule-item.result) at,
      c.loop-rule.invariant.first,
      c.proper-first.ensures,
      c.requires.states,
      c.requires.most,
    )

pub loop-rule-preserved : goal.loop-rule-preserved
loop-rule-preserved c =
    let at = rule_of c.args.sys.now c.rules-rules.result.now c.rules-rules.ensures.rules c.loop-rule.rule-index c.rule-item.result c.loop-rule-test.true c.rule-item.is in
    record {
      first = first_next c.args.sys.now (view c.args.s.now) c.loop-rule.rule-index (rule_view c.rule-item.result) c.loop-rule.first c.proper-first.result at
          c.loop-rule.invariant.first c.proper-first.ensures;
      added =
          rules_next c.args.sys.now (view c.args.s.now) (map transition_view c.args.current.now.transitions.items) c.loop-rule.rule-index (rule_view c.rule-item.result) at
          c.args.current.now.states c.loop-rule.first c.requires.states c.loop-rule.invariant.first
          (map transition_view c.args.next.now.items) (map transition_view c.loop-rule.next.items) (map transition_view c.grow_rule.new.next.items)
          c.loop-rule.invariant.added c.in_ok-grow_rule.ensures;
    }

pub returns : goal.returns
returns c =
    let count = same_count c.rules-rules.result.now c.args.sys.now c.rules-rules.ensures.rules in
    let all : c.loop-rule.rule-index ≡ length c.args.sys.now.rules = omega (arith, count, c.loop-rule-test.false, c.loop-rule.auto.rule-index-end) in
    rules_end c.args.sys.now (view c.args.s.now) (map transition_view c.args.current.now.transitions.items) c.loop-rule.rule-index (map transition_view c.args.next.now.items)
    (map transition_view c.loop-rule.next.items) all c.loop-rule.invariant.added
