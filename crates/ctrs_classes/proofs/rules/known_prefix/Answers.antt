use Rattle.std.proofs.Common.{◌≡◌, ap, length, arith}
use Rattle.rewriting.specs.Prelude.{known, IsWithin}
use Rattle.term_core.specs.RuleView.{rule_view}
use Rattle.ctrs_classes.proofs.Prefixes.{cond_at, good_next, stops_here, goes_through}
use Rattle.ctrs_classes.proofs.rules.known_prefix.Goals as goal

pub returns-in-Some : goal.returns-in-Some
returns-in-Some c =
    let value = c.deref-cond-items.ensures.value in
    let here = cond_at c.args.rule.now c.deref-cond-items.result.now c.loop-i.i c.cond-item.result value c.loop-i-test.true c.cond-item.is in
    stops_here c.args.rule.now c.deref-cond-items.result.now c.loop-i.i c.cond-item.result _ value c.loop-i-test.true here c.loop-i.invariant c.in-Some.ensures

pub loop-i-preserved : goal.loop-i-preserved
loop-i-preserved c =
    let value = c.deref-cond-items.ensures.value in
    let here = cond_at c.args.rule.now c.deref-cond-items.result.now c.loop-i.i c.cond-item.result value c.loop-i-test.true c.cond-item.is in
    good_next (λ j d. IsWithin d.left (known (rule_view c.args.rule.now) j)) (rule_view c.args.rule.now).conditions c.loop-i.i _ here c.in_default.ensures c.loop-i.invariant

pub returns : goal.returns
returns c =
    let value = c.deref-cond-items.ensures.value in
    let long : length c.deref-cond-items.result.now ≡ length c.args.rule.now.conds.items = ap length value in
    let is = c.args.rule.now.conds.ok.0 in
    let n = c.len.ensures in
    goes_through c.args.rule.now c.deref-cond-items.result.now c.loop-i.i c.len.result value c.loop-i-test.false c.loop-i.auto.i-end c.loop-i.invariant (omega (arith, long, is, n))
