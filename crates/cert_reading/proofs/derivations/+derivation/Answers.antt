use Rattle.cert_reading.proofs.Lemmas.{refused_reads, at_front, read_on, length_grown, one_more, none_left}
use Rattle.cert_reading.proofs.Prelude.{suc_is, ◌+◌, ℕ, suc, ◌++◌, map, refl, sym, ap, ◌∙◌, arith, then_reads, as_marks, open_before, ◌-◌, derivations_of, derivation_view, steps_mark}
use Rattle.cert_reading.proofs.Prelude.{steps_marks, step_marks, derivations_marks, derivation_of_steps, derivations_left, framed, rule_mark, derivations, steps_left, steps_of, step_of_rule}
use Rattle.cert_reading.proofs.Prelude.{step_of_hypothesis}
use Rattle.cert_reading.proofs.DerivationMarks.{derivations_push, steps_counted, derivations_counted, counted_all, any_names, steps_push}
use Rattle.cert_reading.proofs.derivations.+derivation.Goals as goal

pub derivation-returns-then-is_some : goal.derivation-returns-then-is_some
derivation-returns-then-is_some t c = λ names more. refused_reads c.is_some.ensures c.if-is_some.true (c.nested.ensures.read names (derivations_left c.args.level more) _ refl)

pub derivation-returns : goal.derivation-returns
derivation-returns t c = λ names more.
    let level = c.args.level in
    as_marks (λ none u. ap (λ (k : ℕ). steps_mark level k ++ steps_marks level (derivation_view c.steps.result)) (sym (c.steps.ensures.counted none)))
    (then_reads (c.nested.ensures.read names (derivations_left level more) _ refl) (read_on (c.text.ensures.read names _ _ refl) (read_on (c.counted-count.ensures.read names _ _ refl)
    (read_on (c.text-2.ensures.read names _ _ refl) (framed (derivations level more) (c.steps.ensures.read names))))))

pub derivations-returns-then-is_some-clause-read : goal.derivations-returns-then-is_some-clause-read
derivations-returns-then-is_some-clause-read t c = λ names. refused_reads c.is_some.ensures c.if-is_some.true (c.derivations.invariant.read names)

pub derivations-derivations-preserved : goal.derivations-derivations-preserved
derivations-derivations-preserved t c =
    let left = derivations c.args.level in
    let k = c.args.count - (c.derivations.counter + 1) in
    let items = c.derivations.derivations.items in
    record {
      read = λ names. one_more left c.args.count c.derivations.counter c.derivations-test.true
          (λ none u. derivations_push c.args.level items c.put.new.list.items c.derivation-next.result (c.put.ensures.grown none)) (c.derivations.invariant.read names)
          (c.derivation-next.ensures names k) (c.put.ensures.read names c.args.end (left k));
      counted = λ none.
          let e = c.derivations.invariant.counted (open_before (c.derivation-next.ensures any_names k) (open_before (c.put.ensures.read any_names c.args.end (left k)) none)) in
          omega (arith, e, length_grown items _ (c.put.ensures.grown none));
    }

pub derivations-returns-clause-read : goal.derivations-returns-clause-read
derivations-returns-clause-read t c = λ names. none_left (derivations c.args.level) c.args.count c.derivations.counter c.derivations-test.false (c.derivations.invariant.read names)

pub derivations-returns-clause-counted : goal.derivations-returns-clause-counted
derivations-returns-clause-counted t c = λ none.
    let e = c.derivations.invariant.counted none in
    derivations_counted c.derivations.derivations.items ∙ counted_all c.args.count c.derivations.counter _ c.derivations-test.false c.derivations.auto.counter-end e

pub step-returns-then-either : goal.step-returns-then-either
step-returns-then-either t c = λ names more.
    let level = c.args.level in
    let rule = c.number-rule.result in
    let ds = derivations_of (map derivation_view c.derivations-conds.result.items) in
    as_marks (λ none u. ap (λ (k : ℕ). rule_mark rule c.position-pos.result.items k ++ derivations_marks (suc level) ds) (sym (c.derivations-conds.ensures.counted none))
    ∙ ap (step_marks level) (sym (step_of_rule rule c.position-pos.result c.derivations-conds.result)))
    (then_reads (c.either.ensures.one c.if-either.true names (steps_left level more) _ _ refl) (read_on (c.number-rule.ensures.read names _ _ refl)
    (read_on (c.text.ensures.read names _ _ refl) (read_on (c.position-pos.ensures names _ _ refl) (read_on (c.text-then-either.ensures.read names _ _ refl)
    (read_on (c.number-count.ensures.read names _ _ refl) (read_on (c.text-then-either-2.ensures.read names _ _ refl) (framed (steps_of level more)
    (rw (← (suc_is level)) at (c.derivations-conds.ensures.read names))))))))))

pub step-returns : goal.step-returns
step-returns t c = λ names more.
    let level = c.args.level in
    as_marks (λ none u. ap (step_marks level) (sym (step_of_hypothesis c.number-number.result c.position-pos-2.result)))
    (then_reads (c.either.ensures.other c.if-either.false names (steps_left level more) _ _ refl) (read_on (c.number-number.ensures.read names _ _ refl)
    (read_on (c.text-2.ensures.read names _ _ refl) (read_on (c.position-pos-2.ensures names _ _ refl) (at_front (c.text-3.ensures.read names _ _ refl))))))

pub steps-returns-then-is_some-clause-read : goal.steps-returns-then-is_some-clause-read
steps-returns-then-is_some-clause-read t c = λ names. refused_reads c.is_some.ensures c.if-is_some.true (c.steps.invariant.read names)

pub steps-steps-preserved : goal.steps-steps-preserved
steps-steps-preserved t c =
    let left = steps_of c.args.level in
    let k = c.args.count - (c.steps.counter + 1) in
    let items = c.steps.steps.items in
    record {
      read = λ names. one_more left c.args.count c.steps.counter c.steps-test.true
          (λ none u. steps_push c.args.level items c.put.new.list.items c.step-next.result (c.put.ensures.grown none)) (c.steps.invariant.read names)
          (c.step-next.ensures names k) (c.put.ensures.read names c.args.end (left k));
      counted = λ none.
          let e = c.steps.invariant.counted (open_before (c.step-next.ensures any_names k) (open_before (c.put.ensures.read any_names c.args.end (left k)) none)) in
          omega (arith, e, length_grown items _ (c.put.ensures.grown none));
    }

pub steps-returns-clause-read : goal.steps-returns-clause-read
steps-returns-clause-read t c = λ names. as_marks (λ none u. ap (steps_marks c.args.level) (sym (derivation_of_steps (record { steps = c.steps.steps }))))
    (none_left (steps_of c.args.level) c.args.count c.steps.counter c.steps-test.false (c.steps.invariant.read names))

pub steps-returns-clause-counted : goal.steps-returns-clause-counted
steps-returns-clause-counted t c = λ none.
    let e = c.steps.invariant.counted none in
    steps_counted (record { steps = c.steps.steps }) ∙ counted_all c.args.count c.steps.counter _ c.steps-test.false c.steps.auto.counter-end e
