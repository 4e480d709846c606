use Rattle.std.proofs.Common.{inr, add-one}
use Rattle.rewriting.specs.Prelude.{known, IsWithin}
use Rattle.term_core.specs.RuleView.{condition_view, rule_view}
use Rattle.ctrs_classes.proofs.Prefixes.{cond_at, good_next, good_all, conditions_length}
use Rattle.ctrs_classes.proofs.rules.deterministic_fault.Goals as goal

pub returns-in-Some-undetermined : goal.returns-in-Some-undetermined
returns-in-Some-undetermined c =
    let value = c.deref-cond-items.ensures.value in
    let here = cond_at c.args.rule.now c.deref-cond-items.result.now c.loop-i.i c.cond-item.result value c.loop-i-test.true c.cond-item.is in
    inr (
      c.in_default.ensures,
      record { i = c.loop-i.i; c = condition_view c.cond-item.result; number = add-one _; is_at = here; good_before = c.loop-i.invariant; first = c.in-Some-undetermined.ensures },
    )

pub loop-i-preserved : goal.loop-i-preserved
loop-i-preserved c =
    let value = c.deref-cond-items.ensures.value in
    let here = cond_at c.args.rule.now c.deref-cond-items.result.now c.loop-i.i c.cond-item.result value c.loop-i-test.true c.cond-item.is in
    good_next (λ j d. IsWithin d.left (known (rule_view c.args.rule.now) j)) (rule_view c.args.rule.now).conditions c.loop-i.i _ here c.in_default-undetermined.ensures c.loop-i.invariant

pub returns : goal.returns
returns c =
    let end = conditions_length c.deref-cond-items.result.now c.args.rule.now c.deref-cond-items.ensures.value c.loop-i.i c.loop-i-test.false in
    record {
      type3 = c.in_default.ensures;
      determined = good_all (λ j d. IsWithin d.left (known (rule_view c.args.rule.now) j)) (rule_view c.args.rule.now).conditions c.loop-i.i end c.loop-i.invariant;
    }
