use Rattle.std.proofs.Common.{◌≡◌, ◌+◌, ◌≤◌, map, length, take, subst, sym, Vec, Global, Ok, Err}
use Rattle.std.specs.Prelude.{Contains}
use Rattle.term_core.proofs.Rules.{handed_on}
use Rattle.cert_model.specs.declared.evidence.Transition.{Transition}
use Rattle.cert_model.specs.EvidenceView.{transition_view}
use Rattle.automaton_grow.specs.Growing.{twins, IsAdded, AddAnswers}
use Rattle.automaton_grow.specs.Placing.{transition_of}
use Rattle.automaton_grow.proofs.Parts.{twins_next, twins_same, twins_error}
use Rattle.automaton_grow.proofs.rounds.add_twins.Goals as goal
use Rattle.automaton_grow.proofs.rounds.add_twins.Goals.{then-one-from+in_ok-add, else-one-from}

pub returns-in_err-add : goal.returns-in_err-add
returns-in_err-add c =
    let a = map transition_view c.args.next.now.items in
    let b = map transition_view c.loop-one.next.items in
    let e = map transition_view c.add.new.transitions.items in
    rw (handed_on _ _ c.from_residual.ensures.1)
    (twins_error c.args.from c.args.to c.args.current.now c.loop-one.one-index c.one-item.result c.loop-one-test.true c.one-item.is a b e c.in_err-add.field-0.0 c.if-one-from.true c.loop-one.invariant
    (subst (λ z. AddAnswers (λ d. d ≡ transition_of c.one-item.result.symbol z c.args.to) b e (Err c.in_err-add.field-0.0)) c.deref.ensures.value c.in_err-add.ensures))

pub loop-one-preserved : goal.loop-one-preserved
loop-one-preserved c =
    let a = map transition_view c.args.next.now.items in
    let b = map transition_view c.loop-one.next.items in
    let So : Vec Transition Global → Type 0 =
    λ v. IsAdded (Contains (twins c.args.from c.args.to (map transition_view (take (c.loop-one.one-index + 1) c.args.current.now)))) (map transition_view c.args.next.now.items)
    (map transition_view v.items) × (length (map transition_view v.items) ≤ 5000) in
    elim c.if-one-from.branch [
      | then-one-from+in_ok-add w ↦
          subst So (sym w.next-is)
          (twins_next c.args.from c.args.to c.args.current.now c.loop-one.one-index c.one-item.result c.loop-one-test.true c.one-item.is a b
          (map transition_view w.add.new.transitions.items) w.if-one-from.true c.loop-one.invariant
          (subst (λ z. AddAnswers (λ d. d ≡ transition_of c.one-item.result.symbol z c.args.to) b (map transition_view w.add.new.transitions.items) (Ok tt)) w.deref.ensures.value w.in_ok-add.ensures))
      | else-one-from w ↦
          subst So (sym w.next-is) (twins_same c.args.from c.args.to c.args.current.now c.loop-one.one-index c.one-item.result c.loop-one-test.true c.one-item.is a b
          w.if-one-from.false c.loop-one.invariant)
    ]
