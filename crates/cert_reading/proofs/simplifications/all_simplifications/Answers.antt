use Rattle.cert_reading.proofs.Lemmas.{more_of, pushed, steps_first, steps_more, refused_reads, known_still, counted_more, one_more, none_left}
use Rattle.cert_reading.proofs.Prelude.{[], ◌∷◌, ◌≡◌, ◌+◌, refl, seen_push, simplifications_marks, StepsUse, map, None, second_version, open_before, number_in, ◌-◌, automaton_view, simp_view}
use Rattle.cert_reading.proofs.Prelude.{by_number, simplifications_of}
use Rattle.cert_reading.proofs.simplifications.all_simplifications.Goals as goal

pub returns-then-is_some-clause-read : goal.returns-then-is_some-clause-read
returns-then-is_some-clause-read c = refused_reads c.is_some.ensures c.if-is_some.true c.steps.invariant.read

pub steps-preserved : goal.steps-preserved
steps-preserved c =
    let names = c.args.names.now in
    let all = map automaton_view c.args.automata.now in
    let k = c.args.count - (c.steps.counter + 1) in
    let items = c.steps.steps.items in
    let put = c.put.ensures.read names c.args.end (simplifications_of k) in
    let was : c.put.new.at.refused ≡ None → c.steps.at.refused ≡ None = λ none. open_before (c.simplification-next.ensures.read k) (open_before put none) in
    let seen = λ (none : c.put.new.at.refused ≡ None). seen_push simp_view items _ c.simplification-next.result (c.put.ensures.grown none) in
    let w = by_number (number_in names all) in
    record {
      read = one_more simplifications_of c.args.count c.steps.counter c.steps-test.true
          (λ none u. rw (seen none) (pushed (simplifications_marks u w) (λ x. simplifications_marks u w (x ∷ [])) refl (steps_first u w) (map simp_view items) _)) c.steps.invariant.read
          (c.simplification-next.ensures.read k) put;
      counted = λ none. counted_more simp_view items _ (c.put.ensures.grown none) (c.steps.invariant.counted (was none));
      plain = λ none. rw (seen none) (more_of (StepsUse second_version all) (steps_more second_version all) (map simp_view items) _
          (c.simplification-next.ensures.plain (open_before put none)) (c.steps.invariant.plain (was none)));
      known = known_still second_version all put tt c.simplification-next.ensures.known;
    }

pub returns-clause-read : goal.returns-clause-read
returns-clause-read c = none_left simplifications_of c.args.count c.steps.counter c.steps-test.false c.steps.invariant.read
