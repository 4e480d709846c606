use Rattle.cert_reading.proofs.Lemmas.{more_of, pushed, open_before_where, low_where, other_below, automata_other, refused_where, counted_more, left_next, left_end, then_where, as_where}
use Rattle.cert_reading.proofs.Lemmas.{as_marks_where}
use Rattle.cert_reading.proofs.Lemmas.{then_nothing_where}
use Rattle.cert_reading.proofs.Prelude.{refl, sealed_marks, seen_push, map, automata_marks, ArePlainAutomata, ◌≡◌, ◌+◌, ℕ, [], ◌∷◌, None, behind_automata, open_before, ◌-◌, automaton_view}
use Rattle.cert_reading.proofs.shared.automata.Goals as goal

pub returns-then-is_some-clause-read : goal.returns-then-is_some-clause-read
returns-then-is_some-clause-read c = λ given. refused_where c.is_some.ensures c.if-is_some.true (c.automata.invariant.read given)

pub automata-preserved : goal.automata-preserved
automata-preserved c =
    let k = c.args.count - (c.automata.counter + 1) in
    let items = c.automata.automata.items in
    let put = c.put.ensures.read c.args.names.now c.args.end [] in
    let was : c.put.new.at.refused ≡ None → c.automata.at.refused ≡ None = λ none. open_before_where (c.shared_automaton-next.ensures.read k None) (open_before put none) in
    let seen = λ (none : c.put.new.at.refused ≡ None). seen_push automaton_view items _ c.shared_automaton-next.result (c.put.ensures.grown none) in
    record {
      read = λ given. as_marks_where (λ none u. rw (seen none) (pushed (automata_marks u) (sealed_marks u) refl (λ a others. refl) (map automaton_view items) _))
          (then_where (as_where (λ none. (left_next (λ (m : ℕ). behind_automata m given ∷ []) c.args.count c.automata.counter c.automata-test.true, λ u. refl)) (c.automata.invariant.read given))
          (then_nothing_where (c.shared_automaton-next.ensures.read k given) (low_where (behind_automata k given) (other_below (behind_automata k given) (automata_other k given)) put)));
      counted = λ none. counted_more automaton_view items _ (c.put.ensures.grown none) (c.automata.invariant.counted (was none));
      plain = λ none. rw (seen none) (more_of ArePlainAutomata (λ x xs ys g p. (p.0, g p.1)) (map automaton_view items) _
          (c.shared_automaton-next.ensures.plain (open_before put none), tt) (c.automata.invariant.plain (was none)));
    }

pub returns-clause-read : goal.returns-clause-read
returns-clause-read c = λ given.
    as_where (λ none. (left_end (λ (m : ℕ). behind_automata m given ∷ []) c.args.count c.automata.counter c.automata-test.false, λ u. refl)) (c.automata.invariant.read given)
