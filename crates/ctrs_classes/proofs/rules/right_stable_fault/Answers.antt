use Rattle.std.proofs.Common.{add-one}
use Rattle.rewriting.specs.Classes.{IsStable}
use Rattle.term_core.specs.RuleView.{condition_view, rule_view}
use Rattle.certificates.specs.Blames.{IsFresh}
use Rattle.ctrs_classes.proofs.Prefixes.{cond_at, good_next, good_all, conditions_length}
use Rattle.ctrs_classes.proofs.rules.right_stable_fault.Goals as goal

pub returns-in-Some : goal.returns-in-Some
returns-in-Some c =
    let value = c.deref-cond-items.ensures.value in
    let here = cond_at c.args.rule.now c.deref-cond-items.result.now c.loop-i.i c.cond-item.result value c.loop-i-test.true c.cond-item.is in
    record { i = c.loop-i.i; c = condition_view c.cond-item.result; number = add-one _; is_at = here; good_before = c.loop-i.invariant; fails = c.in-Some.ensures }

pub loop-i-preserved : goal.loop-i-preserved
loop-i-preserved c =
    let value = c.deref-cond-items.ensures.value in
    let here = cond_at c.args.rule.now c.deref-cond-items.result.now c.loop-i.i c.cond-item.result value c.loop-i-test.true c.cond-item.is in
    good_next (λ j d. IsFresh (rule_view c.args.rule.now) j d × IsStable c.args.sys.now d.right) (rule_view c.args.rule.now).conditions c.loop-i.i _ here c.in_default.ensures c.loop-i.invariant

pub returns : goal.returns
returns c =
    let end = conditions_length c.deref-cond-items.result.now c.args.rule.now c.deref-cond-items.ensures.value c.loop-i.i c.loop-i-test.false in
    let all = good_all (λ j d. IsFresh (rule_view c.args.rule.now) j d × IsStable c.args.sys.now d.right) (rule_view c.args.rule.now).conditions c.loop-i.i end c.loop-i.invariant in
    record { fresh = λ j d at. (all j d at).0; stable = λ j d at. (all j d at).1 }
