use Rattle.std.proofs.Common.{◌≡◌, map, subst, Ok, Err}
use Rattle.term_core.proofs.Rules.{handed_on}
use Rattle.cert_model.specs.EvidenceView.{transition_view}
use Rattle.automaton_grow.specs.Growing.{AddAnswers}
use Rattle.automaton_grow.specs.Placing.{transition_of}
use Rattle.automaton_grow.proofs.Parts.{upto_next, upto_error}
use Rattle.automaton_grow.proofs.ordered.add_all.Goals as goal

pub returns-in_err-add : goal.returns-in_err-add
returns-in_err-add c =
    let a = map transition_view c.args.transitions.now.items in
    let b = map transition_view c.loop-one.transitions.items in
    let e = map transition_view c.add.new.transitions.items in
    rw (handed_on _ _ c.from_residual.ensures.1)
    (upto_error transition_view c.args.some.now c.loop-one.one-index c.one-item.result a b e c.in_err-add.field-0.0 c.loop-one-test.true c.one-item.is c.loop-one.invariant
    (subst (λ z. AddAnswers (λ d. d ≡ transition_of c.one-item.result.symbol z c.one-item.result.target) b e (Err c.in_err-add.field-0.0)) c.deref.ensures.value c.in_err-add.ensures))

pub loop-one-preserved : goal.loop-one-preserved
loop-one-preserved c =
    let a = map transition_view c.args.transitions.now.items in
    let b = map transition_view c.loop-one.transitions.items in
    let e = map transition_view c.add.new.transitions.items in
    upto_next transition_view c.args.some.now c.loop-one.one-index c.one-item.result a b e c.loop-one-test.true c.one-item.is c.loop-one.invariant
    (subst (λ z. AddAnswers (λ d. d ≡ transition_of c.one-item.result.symbol z c.one-item.result.target) b e (Ok tt)) c.deref.ensures.value c.in_ok-add.ensures)
