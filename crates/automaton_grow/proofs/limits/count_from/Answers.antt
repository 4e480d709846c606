use Rattle.std.proofs.Common.{arith}
use Rattle.term_core.specs.View.{view}
use Rattle.automaton_grow.proofs.Rules.{proper_size, fit_here, count_step}
use Rattle.automaton_grow.proofs.limits.count_from.Goals as goal

pub overflow_add-count : goal.overflow_add-count
overflow_add-count c =
    let fit = fit_here c.args.rules.now c.loop-rule.rule-index c.rule-item.result c.loop-rule-test.true c.rule-item.is c.loop-rule.invariant.fit in
    omega (arith, proper_size (view c.rule-item.result.right), fit.1.nodes, c.proper-count.ensures)

pub loop-rule-preserved : goal.loop-rule-preserved
loop-rule-preserved c =
    let fit = fit_here c.args.rules.now c.loop-rule.rule-index c.rule-item.result c.loop-rule-test.true c.rule-item.is c.loop-rule.invariant.fit in
    record {
      counted =
          count_step c.args.rules.now c.loop-rule.rule-index c.rule-item.result c.loop-rule-test.true c.rule-item.is c.loop-rule.count c.proper-count.result _
          c.proper-count.ensures c.loop-rule.invariant.counted;
      fit = fit.2;
      small = omega (arith, proper_size (view c.rule-item.result.right), fit.1.nodes, c.proper-count.ensures);
    }
