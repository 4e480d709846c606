use Rattle.std.proofs.Common.{◌+◌, ◌∙◌, ℕ, refl, ap}
use Rattle.rewriting.specs.Rules.{Rule}
use Rattle.automata.specs.Closed.{IsWide}
use Rattle.term_core.specs.Prelude.{view, rule_view}
use Rattle.cert_model.specs.EvidenceView.{automaton_view}
use Rattle.tree_automata.proofs.Listed.{wide_by, narrow_by}
use Rattle.tree_automata.proofs.Open.{rule_stands, rules_past, first_wide_of, each_more, each_all}
use Rattle.tree_automata.proofs.width.judge_widths.Goals as goal

pub returns-then-has_more_choices : goal.returns-then-has_more_choices
returns-then-has_more_choices c =
    let sys = c.args.sys.now in
    let a = automaton_view c.args.a.now in
    let at = rule_stands sys c.rules-rule-items.result.now c.rules.rule-index c.rule-item.result c.rules-rule-items.ensures.rules c.rules-test.true c.rule-item.is in
    first_wide_of sys a c.rules.rule-index (c.rules.number + 1) (rule_view c.rule-item.result) (ap (λ (k : ℕ). k + 1) c.rules.invariant.counted) at
    (wide_by a (view c.rule-item.result.left) c.len.result c.in_ok-names.names.items (c.len.ensures ∙ c.in_ok-names.names.ok.0) c.in_ok-names.ensures
    (c.if-has_more_choices.ensures.0 refl))
    c.rules.invariant.narrow

pub rules-preserved : goal.rules-preserved
rules-preserved c =
    let sys = c.args.sys.now in
    let a = automaton_view c.args.a.now in
    let at = rule_stands sys c.rules-rule-items.result.now c.rules.rule-index c.rule-item.result c.rules-rule-items.ensures.rules c.rules-test.true c.rule-item.is in record {
      counted = ap (λ (k : ℕ). k + 1) c.rules.invariant.counted;
      narrow = each_more (λ (q : Rule). IsWide a q.left → ⊥) sys.rules c.rules.rule-index (rule_view c.rule-item.result) at
          (narrow_by a (view c.rule-item.result.left) c.len.result c.in_ok-names.names.items (c.len.ensures ∙ c.in_ok-names.names.ok.0) c.in_ok-names.ensures
          c.if-has_more_choices.ensures.1)
          c.rules.invariant.narrow;
    }

pub returns : goal.returns
returns c = λ n r at.
    each_all (λ (q : Rule). IsWide (automaton_view c.args.a.now) q.left → ⊥) c.args.sys.now c.rules.rule-index
    (rules_past c.args.sys.now c.rules-rule-items.result.now c.rules.rule-index c.rules-rule-items.ensures.rules c.rules-test.false) c.rules.invariant.narrow n r at
