use Rattle.std.proofs.Common.{◌≡◌, ◌∙◌, map, subst, get_or, Ok, Err, Some, arith}
use Rattle.std.proofs.lemmas.Option.{slice_get-get_or}
use Rattle.term_core.proofs.Rules.{handed_on}
use Rattle.cert_model.specs.EvidenceView.{transition_view}
use Rattle.automaton_grow.specs.Growing.{AddAnswers}
use Rattle.automaton_grow.specs.Placing.{transition_of}
use Rattle.automaton_grow.proofs.Parts.{symbols_next, symbols_error, basic_error, basic_whole}
use Rattle.automaton_grow.proofs.rounds.add_basic.Goals as goal

pub returns-in_err-add : goal.returns-in_err-add
returns-in_err-add c =
    let b = map transition_view c.loop-f.transitions.items in
    let e = map transition_view c.add.new.transitions.items in
    let zeros = c.deref.ensures.value ∙ c.in_ok-args.ensures.items_if_clones_equal (λ y h. h) in
    rw (handed_on _ _ c.from_residual-in_err-add.ensures.1)
    (symbols_error c.args.arities.now c.loop-f.f (get_or c.args.arities.now c.loop-f.f 0) c.loop-f-test.true (slice_get-get_or c.args.arities.now c.loop-f.f 0 c.loop-f-test.true)
    (map transition_view c.args.inside.now) (map transition_view c.args.transitions.now.items) b e c.in_err-add.field-0.0 c.loop-f.invariant
    (subst (λ z. AddAnswers (λ d. d ≡ transition_of (Some c.loop-f.f) z 0) b e (Err c.in_err-add.field-0.0)) zeros c.in_err-add.ensures))

pub loop-f-preserved : goal.loop-f-preserved
loop-f-preserved c =
    let b = map transition_view c.loop-f.transitions.items in
    let e = map transition_view c.add.new.transitions.items in
    let zeros = c.deref.ensures.value ∙ c.in_ok-args.ensures.items_if_clones_equal (λ y h. h) in
    symbols_next c.args.arities.now c.loop-f.f (get_or c.args.arities.now c.loop-f.f 0) c.loop-f-test.true
    (slice_get-get_or c.args.arities.now c.loop-f.f 0 c.loop-f-test.true) (map transition_view c.args.transitions.now.items) b e c.loop-f.invariant
    (subst (λ z. AddAnswers (λ d. d ≡ transition_of (Some c.loop-f.f) z 0) b e (Ok tt)) zeros c.in_ok-add.ensures)

pub returns-in_err-add-2 : goal.returns-in_err-add-2
returns-in_err-add-2 c =
    rw (handed_on _ _ c.from_residual-in_err-add-2.ensures.1)
    (basic_error c.args.arities.now (map transition_view c.args.inside.now) (map transition_view c.args.transitions.now.items) (map transition_view c.loop-f.transitions.items)
    (map transition_view c.add-2.new.transitions.items) c.loop-f.f (omega (arith, c.loop-f.auto.f-end, c.loop-f-test.false)) c.loop-f.invariant c.in_err-add-2.field-0.0 c.in_err-add-2.ensures)

pub returns : goal.returns
returns c =
    basic_whole c.args.arities.now (map transition_view c.args.inside.now) (map transition_view c.args.transitions.now.items) (map transition_view c.loop-f.transitions.items)
    (map transition_view c.add-2.new.transitions.items) c.loop-f.f (omega (arith, c.loop-f.auto.f-end, c.loop-f-test.false)) c.loop-f.invariant
    (map transition_view c.add_all.new.transitions.items) c.add_all.result c.in_ok-add-2.ensures c.add_all.ensures
