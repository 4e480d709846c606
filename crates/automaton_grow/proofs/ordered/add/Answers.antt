use Rattle.std.proofs.Common.{◌≡◌, map, subst, Some, arith}
use Rattle.std.specs.Prelude.{slice_get}
use Rattle.std.proofs.lemmas.List.{length-map}
use Rattle.cert_model.specs.EvidenceView.{transition_view}
use Rattle.automaton_grow.specs.Growing.{IsAdded}
use Rattle.automaton_grow.specs.Placing.{IsPlace, transition_of}
use Rattle.automaton_grow.proofs.Adding.{standing, put_there}
use Rattle.automaton_grow.proofs.ordered.add.Goals as goal
use Rattle.automaton_grow.proofs.ordered.add.Goals.{In_ok-put-in-Err}

added : (c : In_ok-put-in-Err) → IsAdded (λ d. d ≡ transition_of c.args.symbol c.args.args.now c.args.target) (map transition_view c.args.transitions.now.items)
    (map transition_view c.put.new.transitions.items)
added c =
    let d = transition_of c.args.symbol c.args.args.now c.args.target in
    put_there c.in-Err.at (map transition_view c.args.transitions.now.items) (map transition_view c.put.new.transitions.items) d c.requires.sorted
    (subst (λ z. IsPlace (map transition_view z) d c.in-Err.at) c.deref.ensures.value c.in-Err.ensures) c.in_ok-put-in-Err.ensures

pub returns-then-len-gt-MOST_GROWN_TRANSITIONS : goal.returns-then-len-gt-MOST_GROWN_TRANSITIONS
returns-then-len-gt-MOST_GROWN_TRANSITIONS c = (
  (added (goal.at.returns-then-len-gt-MOST_GROWN_TRANSITIONS c).In_ok-put-in-Err).part,
  omega (arith, length-map c.put.new.transitions.items transition_view, c.len.ensures, c.put.new.transitions.ok.0, c.if-len-gt-MOST_GROWN_TRANSITIONS.true),
)

pub returns-in-Ok : goal.returns-in-Ok
returns-in-Ok c =
    let d = transition_of c.args.symbol c.args.args.now c.args.target in (
      standing c.in-Ok.field-0 (map transition_view c.args.transitions.now.items) d c.requires.sorted
          (subst (λ z. slice_get (map transition_view z) c.in-Ok.field-0 ≡ Some d) c.deref.ensures.value c.in-Ok.ensures),
      c.requires.few,
    )

pub returns-else-len-gt-MOST_GROWN_TRANSITIONS : goal.returns-else-len-gt-MOST_GROWN_TRANSITIONS
returns-else-len-gt-MOST_GROWN_TRANSITIONS c = (
  added (goal.at.returns-else-len-gt-MOST_GROWN_TRANSITIONS c).In_ok-put-in-Err,
  omega (arith, length-map c.put.new.transitions.items transition_view, c.len.ensures, c.put.new.transitions.ok.0, c.if-len-gt-MOST_GROWN_TRANSITIONS.false),
)
