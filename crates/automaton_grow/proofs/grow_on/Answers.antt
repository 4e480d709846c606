use Rattle.std.proofs.Common.{◌≡◌, ◌∙◌, length, map, sym}
use Rattle.term_core.specs.View.{view}
use Rattle.cert_model.specs.EvidenceView.{transition_view}
use Rattle.std.proofs.lemmas.List.{length-map}
use Rattle.automaton_grow.proofs.Parts.{round_same}
use Rattle.automaton_grow.proofs.grow_on.Goals as goal

pub returns-then-len : goal.returns-then-len
returns-then-len c =
    let ds = map transition_view c.rounds.current.transitions.items in
    let es = map transition_view c.in_ok-next.next.items in
    let same : length es ≡ length ds =
    length-map c.in_ok-next.next.items transition_view ∙ sym (c.len.ensures ∙ c.in_ok-next.next.ok.0) ∙ c.if-len.true ∙ (c.len-in-rounds.ensures ∙ c.rounds.current.transitions.ok.0)
    ∙ sym (length-map c.rounds.current.transitions.items transition_view) in (
      record {
        states = c.rounds.invariant.states ∙ c.requires.states;
        accepting = c.rounds.invariant.accepting ∙ c.requires.accepting;
        transitions = round_same c.args.sys.now (view c.args.s.now) ds es c.rounds.invariant.partial c.in_ok-next.ensures.0 same;
      },
      c.rounds.invariant.partial.few,
    )
