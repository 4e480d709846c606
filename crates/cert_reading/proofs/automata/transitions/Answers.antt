use Rattle.cert_reading.proofs.Lemmas.{more_of, pushed, refused_reads, counted_more, one_more, none_left}
use Rattle.cert_reading.proofs.Prelude.{[], ◌∷◌, codes, fixed, state, head_marks, ◌≡◌, ◌+◌, ◌++◌, refl, sym, ap, append-nil, List, Mark, map, None, seen_push, open_before, ◌-◌, transition_view}
use Rattle.cert_reading.proofs.Prelude.{transitions_of, transitions_marks, AreWithoutStates}
use Rattle.cert_reading.proofs.automata.transitions.Goals as goal

pub returns-then-is_some-clause-read : goal.returns-then-is_some-clause-read
returns-then-is_some-clause-read c = refused_reads c.is_some.ensures c.if-is_some.true c.transitions.invariant.read

pub transitions-preserved : goal.transitions-preserved
transitions-preserved c =
    let b = c.args.states in
    let k = c.args.count - (c.transitions.counter + 1) in
    let items = c.transitions.transitions.items in
    let put = c.put.ensures.read c.args.names.now c.args.end (transitions_of b k) in
    let was : c.put.new.at.refused ≡ None → c.transitions.at.refused ≡ None = λ none. open_before (c.transition-next.ensures.read k) (open_before put none) in
    let seen = λ (none : c.put.new.at.refused ≡ None). seen_push transition_view items _ c.transition-next.result (c.put.ensures.grown none) in
    record {
      read = one_more (transitions_of b) c.args.count c.transitions.counter c.transitions-test.true
          (λ none u. rw (seen none) (pushed (transitions_marks u b) (λ t. transitions_marks u b (t ∷ [])) refl (λ t ts. ap (λ (ms : List Mark). ms ++ transitions_marks u b ts)
          (sym (append-nil (head_marks u b t.symbol t.arguments ++ (fixed (codes " ") ∷ state b t.target ∷ fixed (codes "\n") ∷ []))))) (map transition_view items)
          (transition_view c.transition-next.result))) c.transitions.invariant.read (c.transition-next.ensures.read k) put;
      counted = λ none. counted_more transition_view items _ (c.put.ensures.grown none) (c.transitions.invariant.counted (was none));
      plain = λ none. rw (seen none) (more_of AreWithoutStates (λ x xs ys g p. (p.0, g p.1)) (map transition_view items) _
          (c.transition-next.ensures.plain, tt) (c.transitions.invariant.plain (was none)));
    }

pub returns-clause-read : goal.returns-clause-read
returns-clause-read c = none_left (transitions_of c.args.states) c.args.count c.transitions.counter c.transitions-test.false c.transitions.invariant.read
