use Rattle.std.proofs.Common.{map, subst, Ok, Err}
use Rattle.term_core.specs.RuleView.{rule_view}
use Rattle.term_core.proofs.Rules.{handed_on}
use Rattle.cert_model.specs.EvidenceView.{transition_view}
use Rattle.automaton_grow.specs.Growing.{IsAskedAt, AddAnswers}
use Rattle.automaton_grow.proofs.Parts.{rows_next, rows_error}
use Rattle.automaton_grow.proofs.rounds.add_rule.Goals as goal

pub returns-in_err-add_asked : goal.returns-in_err-add_asked
returns-in_err-add_asked c =
    let ds = map transition_view c.args.current.now in
    let a = map transition_view c.args.next.now.items in
    let b = map transition_view c.loop-row.next.items in
    let e = map transition_view c.add_asked.new.next.items in
    rw (handed_on _ _ c.from_residual-in_err-add_asked.ensures.1)
    (rows_error c.args.placed.first (rule_view c.args.placed.rule.now) ds c.args.rows.now c.loop-row.row-index c.row-item.result c.loop-row-test.true c.row-item.is
    a b e c.in_err-add_asked.field-0.0 c.loop-row.invariant
    (subst (λ z. AddAnswers (IsAskedAt c.args.placed.first (rule_view c.args.placed.rule.now) ds z c.row-item.result.state) b e (Err c.in_err-add_asked.field-0.0))
    c.deref-in-loop-row.ensures.value c.in_err-add_asked.ensures))

pub loop-row-preserved : goal.loop-row-preserved
loop-row-preserved c =
    let ds = map transition_view c.args.current.now in
    let a = map transition_view c.args.next.now.items in
    let b = map transition_view c.loop-row.next.items in
    let e = map transition_view c.add_asked.new.next.items in
    rows_next c.args.placed.first (rule_view c.args.placed.rule.now) ds c.args.rows.now c.loop-row.row-index c.row-item.result c.loop-row-test.true c.row-item.is a b e c.loop-row.invariant
    (subst (λ z. AddAnswers (IsAskedAt c.args.placed.first (rule_view c.args.placed.rule.now) ds z c.row-item.result.state) b e (Ok tt)) c.deref-in-loop-row.ensures.value c.in_ok-add_asked.ensures)
