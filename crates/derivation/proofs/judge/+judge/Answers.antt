use Rattle.std.proofs.Common.{ℕ, ◌≡◌, ◌+◌, [], map, refl, sym, ◌∙◌, subst, subst₂, arith}
use Rattle.certificates.specs.Prelude.{derivation_of, derivations_of, Derives, StepsTo, StepFails, AreMet, FailsFrom, FailFrom, no_such_rule, no_redex}
use Rattle.certificates.specs.Prelude.{wrong_count, condition_fails}
use Rattle.rewriting.specs.Matching.{IsLeastMatch, HasNoMatch}
use Rattle.term_core.specs.Prelude.{view, condition_view, rule_view}
use Rattle.cert_model.specs.DerivationView.{derivation_view, step_view}
use Rattle.derivation.specs.Judged.{IsCounted, IsMatch, IsUnmatchedAt, IsContracted, HasNoContractum, HasSizeAt, IsInstance, HasNoInstance, Fulfils, Misses}
use Rattle.derivation.proofs.Judging.{judged_here, judged_passed, judged_map, judged_below}
use Rattle.derivation.proofs.Shown.{counted_derivations, counted_conditions, steps_seen, step_count_of}
use Rattle.derivation.proofs.OneCondition.{no_start, bad_inside, differs, fulfilled}
use Rattle.derivation.proofs.Progress.{run_begins, next_running, failing_step, short_rest, next_meeting, failing_condition, fits_rest, short_derivations}
use Rattle.derivation.proofs.Contracting.{open_size, contracted_back, uncontracted_back}
use Rattle.derivation.proofs.OneStep.{absent_rule, unmatched, miscounted, unmet, stepped, uncontracted}
use Rattle.derivation.proofs.judge.+judge.Goals as goal
use Rattle.derivation.proofs.judge.+judge.Goals.{after_step-In_ok-found-in-Rule}

-- the match of the rule at the step's position
matched_here : (t : ℕ) (c : after_step-In_ok-found-in-Rule t) → IsMatch (rule_view c.in-Some.rule.now).left (view c.args.t.term) c.in-Rule.pos.items c.in_ok-found-in-Rule.found
matched_here t c = subst (λ q. IsMatch (rule_view c.in-Some.rule.now).left (view c.args.t.term) q c.in_ok-found-in-Rule.found) c.deref.ensures.value c.in_ok-found-in-Rule.ensures

pub after_step-returns-in_default : goal.after_step-returns-in_default
after_step-returns-in_default t c =
    let sys = c.args.sys.now in
    let hyps = map condition_view c.args.hyps.now in
    let s = c.args.step.now in
    judged_here (λ u. StepsTo sys hyps (view c.args.t.term) (step_view s) (view u.term) × IsCounted u) (StepFails sys hyps (view c.args.t.term) (step_view s)) no_such_rule c.here.result c.here.ensures
    (absent_rule sys hyps (view c.args.t.term) s c.in-Rule.rule c.in-Rule.pos c.in-Rule.conds c.in-Rule.is c.in_default.ensures.rule)

pub after_step-returns-in_err-found-in-Rule : goal.after_step-returns-in_err-found-in-Rule
after_step-returns-in_err-found-in-Rule t c =
    let sys = c.args.sys.now in
    let hyps = map condition_view c.args.hyps.now in
    let s = c.args.step.now in
    let term = view c.args.t.term in
    let r = rule_view c.in-Some.rule.now in
    judged_passed (IsMatch r.left term c.deref.result.now) (λ path reason. (path ≡ []) × (reason ≡ no_redex) × IsUnmatchedAt r.left term c.deref.result.now)
    (λ u. StepsTo sys hyps term (step_view s) (view u.term) × IsCounted u) (StepFails sys hyps term (step_view s))
    c.from_residual.result c.in_err-found-in-Rule.field-0.0 c.from_residual.ensures.0 c.from_residual.ensures.1
    (λ path reason h. unmatched sys hyps term s c.in-Rule.rule c.in-Rule.pos c.in-Rule.conds c.in-Rule.is r c.in-Some.ensures.rule path reason
    (subst (λ q. (path ≡ []) × (reason ≡ no_redex) × IsUnmatchedAt r.left term q) c.deref.ensures.value h))
    c.in_err-found-in-Rule.ensures

pub after_step-returns-then-len : goal.after_step-returns-then-len
after_step-returns-then-len t c =
    let sys = c.args.sys.now in
    let hyps = map condition_view c.args.hyps.now in
    let s = c.args.step.now in
    let term = view c.args.t.term in
    let r = rule_view c.in-Some.rule.now in
    let m = matched_here t (goal.at.after_step-returns-then-len t c).In_ok-found-in-Rule in
    judged_here (λ u. StepsTo sys hyps term (step_view s) (view u.term) × IsCounted u) (StepFails sys hyps term (step_view s)) wrong_count c.here-then-len.result c.here-then-len.ensures
    (miscounted sys hyps term s c.in-Rule.rule c.in-Rule.pos c.in-Rule.conds c.in-Rule.is r c.in-Some.ensures.rule c.in_ok-found-in-Rule.found m
    (λ e. c.if-len.true (c.len.ensures ∙ sym (counted_derivations c.in-Rule.conds) ∙ e ∙ counted_conditions c.in-Some.rule.now.conds ∙ sym c.len-in-Rule.ensures)))

pub after_step-returns-in_err-values-in-Rule : goal.after_step-returns-in_err-values-in-Rule
after_step-returns-in_err-values-in-Rule t c =
    let sys = c.args.sys.now in
    let hyps = map condition_view c.args.hyps.now in
    let s = c.args.step.now in
    let term = view c.args.t.term in
    let r = rule_view c.in-Some.rule.now in
    let m = matched_here t (goal.at.after_step-returns-in_err-values-in-Rule t c).In_ok-found-in-Rule in
    let start = c.in_ok-found-in-Rule.found.values in
    judged_passed (λ end. AreMet sys hyps start (map condition_view c.deref-in-Rule-2.result.now) (derivations_of (map derivation_view c.deref-in-Rule.result.now)) end)
    (FailFrom sys hyps 1 start (map condition_view c.deref-in-Rule-2.result.now) (derivations_of (map derivation_view c.deref-in-Rule.result.now)))
    (λ u. StepsTo sys hyps term (step_view s) (view u.term) × IsCounted u) (StepFails sys hyps term (step_view s))
    c.from_residual-in_err-values-in-Rule.result c.in_err-values-in-Rule.field-0.0 c.from_residual-in_err-values-in-Rule.ensures.0 c.from_residual-in_err-values-in-Rule.ensures.1
    (λ path reason h. unmet sys hyps term s c.in-Rule.rule c.in-Rule.pos c.in-Rule.conds c.in-Rule.is r c.in-Some.ensures.rule c.in_ok-found-in-Rule.found m
    (counted_derivations c.in-Rule.conds ∙ sym c.len.ensures ∙ c.if-len.false ∙ c.len-in-Rule.ensures ∙ sym (counted_conditions c.in-Some.rule.now.conds)) path reason
    (subst₂ (λ cs xs. FailFrom sys hyps 1 start (map condition_view cs) (derivations_of (map derivation_view xs)) path reason) c.deref-in-Rule-2.ensures.value c.deref-in-Rule.ensures.value h))
    c.in_err-values-in-Rule.ensures

pub after_step-returns-in_ok-values-in-Rule : goal.after_step-returns-in_ok-values-in-Rule
after_step-returns-in_ok-values-in-Rule t c =
    let sys = c.args.sys.now in
    let hyps = map condition_view c.args.hyps.now in
    let s = c.args.step.now in
    let term = view c.args.t.term in
    let r = rule_view c.in-Some.rule.now in
    let found = c.in_ok-found-in-Rule.found in
    let m = matched_here t (goal.at.after_step-returns-in_ok-values-in-Rule t c).In_ok-found-in-Rule in
    let values = c.in_ok-values-in-Rule.values in
    let met : AreMet sys hyps found.values r.conditions (derivations_of (map derivation_view c.in-Rule.conds.items)) values =
    subst₂ (λ cs xs. AreMet sys hyps found.values (map condition_view cs) (derivations_of (map derivation_view xs)) values) c.deref-in-Rule-2.ensures.value
    c.deref-in-Rule.ensures.value c.in_ok-values-in-Rule.ensures in
    let rest = view found.rest.term in
    judged_map (λ u. IsContracted r.right values rest c.deref-in-Rule-3.result.now (view u.term) × IsCounted u)
    (λ path reason. (path ≡ []) × HasNoContractum r.right values rest c.deref-in-Rule-3.result.now reason)
    (λ u. StepsTo sys hyps term (step_view s) (view u.term) × IsCounted u) (StepFails sys hyps term (step_view s))
    c.contracted.result
    (λ u h. (
      stepped sys hyps term s c.in-Rule.rule c.in-Rule.pos c.in-Rule.conds c.in-Rule.is r c.in-Some.ensures.rule found m values met (view u.term)
          (contracted_back term rest m.part c.in-Rule.pos.items m.stands m.rest r.right values (view u.term)
          (subst (λ q. IsContracted r.right values rest q (view u.term)) c.deref-in-Rule-3.ensures.value h.0)) h.1.fits,
      h.1,
    ))
    (λ path reason h. uncontracted sys hyps term s c.in-Rule.rule c.in-Rule.pos c.in-Rule.conds c.in-Rule.is r c.in-Some.ensures.rule found m values met path reason
    (let g = subst (λ q. (path ≡ []) × HasNoContractum r.right values rest q reason) c.deref-in-Rule-3.ensures.value h in
    (g.0, uncontracted_back term rest m.part c.in-Rule.pos.items m.stands m.rest r.right values reason g.1)))
    c.contracted.ensures

pub after_step-contracted-requires-clause-there : goal.after_step-contracted-requires-clause-there
after_step-contracted-requires-clause-there t c =
    let found = c.in_ok-found-in-Rule.found in
    let m = c.in_ok-found-in-Rule.ensures in
    subst (λ q. HasSizeAt (view found.rest.term) q 1) (c.deref.ensures.value ∙ sym c.deref-in-Rule-3.ensures.value)
    (open_size (view c.args.t.term) (view found.rest.term) m.part c.deref.result.now m.stands m.rest)

pub run-loop-step-init : goal.run-loop-step-init
run-loop-step-init t c =
    let steps = c.args.steps.now in
    let many = step_count_of steps in
    let few = c.requires.short.few_steps in
    record {
      running = run_begins c.args.sys.now (map condition_view c.args.hyps.now) (view c.args.start.term) (derivation_of (map step_view steps));
      counted = c.requires.counted;
      number = refl;
      few = omega (arith, many, few);
      short = c.requires.short.inner;
    }

pub run-returns-in-Err : goal.run-returns-in-Err
run-returns-in-Err t c =
    let sys = c.args.sys.now in
    let hyps = map condition_view c.args.hyps.now in
    let here = view c.loop-step.t.term in
    let start = view c.args.start.term in
    let steps = c.args.steps.now in
    let whole = derivation_of (map step_view steps) in
    let x = c.step-item.result in
    judged_below (λ u. StepsTo sys hyps here (step_view x) (view u.term) × IsCounted u) (StepFails sys hyps here (step_view x))
    (λ u. Derives sys hyps start whole (view u.term) × IsCounted u) (FailsFrom sys hyps 1 start whole)
    (c.loop-step.number + 1) c.in-Err.e c.below.result c.below.ensures
    (failing_step steps c.loop-step.step-index x c.loop-step-test.true c.step-item.is sys hyps here start whole c.loop-step.invariant.running c.loop-step.number c.loop-step.invariant.number)
    c.in-Err.ensures

pub run-loop-step-preserved : goal.run-loop-step-preserved
run-loop-step-preserved t c =
    let sys = c.args.sys.now in
    let hyps = map condition_view c.args.hyps.now in
    let steps = c.args.steps.now in
    let i = c.loop-step.step-index in
    let x = c.step-item.result in
    let number = c.loop-step.invariant.number in
    record {
      running =
          next_running steps i x c.loop-step-test.true c.step-item.is sys hyps (view c.loop-step.t.term) (view c.args.start.term) (derivation_of (map step_view steps))
          c.loop-step.invariant.running (view c.in-Ok.next.term) c.in-Ok.ensures.0;
      counted = c.in-Ok.ensures.1;
      number = omega (arith, number);
      few = c.loop-step.invariant.few;
      short = short_rest steps i x c.loop-step-test.true c.step-item.is c.loop-step.invariant.short;
    }

pub condition_met-returns-in_err-from : goal.condition_met-returns-in_err-from
condition_met-returns-in_err-from t c =
    let sys = c.args.sys.now in
    let hyps = map condition_view c.args.hyps.now in
    let d = derivation_view c.args.d.now in
    let b = c.args.values in
    let cond = condition_view c.args.cond.now in
    judged_passed (λ u. IsInstance b cond.left (view u.term) × IsCounted u) (λ path reason. (path ≡ []) × HasNoInstance b cond.left reason) (Fulfils sys hyps d b cond) (Misses sys hyps d b cond)
    c.from_residual.result c.in_err-from.field-0.0 c.from_residual.ensures.0 c.from_residual.ensures.1 (no_start sys hyps d b cond) c.in_err-from.ensures

pub condition_met-returns-in_err-end : goal.condition_met-returns-in_err-end
condition_met-returns-in_err-end t c =
    let sys = c.args.sys.now in
    let hyps = map condition_view c.args.hyps.now in
    let d = derivation_view c.args.d.now in
    let steps = derivation_of (map step_view c.deref.result.now) in
    let b = c.args.values in
    let cond = condition_view c.args.cond.now in
    let from = view c.in_ok-from.from.term in
    judged_passed (λ u. Derives sys hyps from steps (view u.term) × IsCounted u) (FailsFrom sys hyps 1 from steps) (Fulfils sys hyps d b cond) (Misses sys hyps d b cond)
    c.from_residual-in_err-end.result c.in_err-end.field-0.0 c.from_residual-in_err-end.ensures.0 c.from_residual-in_err-end.ensures.1
    (λ path reason h. bad_inside sys hyps d b cond from c.in_ok-from.ensures.0 path reason
    (subst (λ z. FailsFrom sys hyps 1 from z path reason) (steps_seen c.args.d.now c.deref.result.now c.deref.ensures.value) h))
    c.in_err-end.ensures

pub condition_met-returns : goal.condition_met-returns
condition_met-returns t c =
    let sys = c.args.sys.now in
    let hyps = map condition_view c.args.hyps.now in
    let d = derivation_view c.args.d.now in
    let b = c.args.values in
    let cond = condition_view c.args.cond.now in
    let from = view c.in_ok-from.from.term in
    let end = view c.in_ok-end.end.term in
    let led = subst (λ z. Derives sys hyps from z end) (steps_seen c.args.d.now c.deref.result.now c.deref.ensures.value) c.in_ok-end.ensures.0 in
    judged_map (λ after. IsLeastMatch b after cond.right end) (λ path reason. (path ≡ []) × (reason ≡ condition_fails) × HasNoMatch b cond.right end) (Fulfils sys hyps d b cond)
    (Misses sys hyps d b cond) c.values_after.result (fulfilled sys hyps d b cond from c.in_ok-from.ensures.0 end led)
    (differs sys hyps d b cond from c.in_ok-from.ensures.0 end led) c.values_after.ensures

pub values_met-returns-in-Err : goal.values_met-returns-in-Err
values_met-returns-in-Err t c =
    let sys = c.args.sys.now in
    let hyps = map condition_view c.args.hyps.now in
    let cs = c.args.conds.now in
    let ds = c.args.ds.now in
    let all = map condition_view cs in
    let whole = derivations_of (map derivation_view ds) in
    let b = c.loop-k.values in
    let d = derivation_view c.index-ds-k.result in
    let cond = condition_view c.index-conds-k.result in
    judged_below (Fulfils sys hyps d b cond) (Misses sys hyps d b cond) (AreMet sys hyps c.args.start all whole) (FailFrom sys hyps 1 c.args.start all whole)
    (c.loop-k.k + 1) c.in-Err.e c.below.result c.below.ensures
    (failing_condition cs ds c.loop-k.k c.index-conds-k.result c.index-ds-k.result c.loop-k-test.true c.requires.paired c.index-conds-k.is c.index-ds-k.is sys hyps b c.args.start all whole
    c.loop-k.invariant.meeting) c.in-Err.ensures

pub values_met-loop-k-preserved : goal.values_met-loop-k-preserved
values_met-loop-k-preserved t c =
    let sys = c.args.sys.now in
    let hyps = map condition_view c.args.hyps.now in
    let cs = c.args.conds.now in
    let ds = c.args.ds.now in
    let k = c.loop-k.k in
    record {
      meeting =
          next_meeting cs ds k c.index-conds-k.result c.index-ds-k.result c.loop-k-test.true c.requires.paired c.index-conds-k.is c.index-ds-k.is sys hyps c.loop-k.values c.args.start
          (map condition_view cs) (derivations_of (map derivation_view ds)) c.loop-k.invariant.meeting c.in-Ok.after c.in-Ok.ensures;
      fits = fits_rest cs ds k c.index-conds-k.result c.index-ds-k.result c.loop-k-test.true c.requires.paired c.index-conds-k.is c.index-ds-k.is c.loop-k.invariant.fits;
      short = short_derivations cs ds k c.index-conds-k.result c.index-ds-k.result c.loop-k-test.true c.requires.paired c.index-conds-k.is c.index-ds-k.is c.loop-k.invariant.short;
    }
