use Rattle.automaton_runs.proofs.BatchParts.{zeros_more, zeros_all}
use Rattle.automaton_runs.proofs.tails.is_zeros.Goals as goal

pub loop-state-preserved : goal.loop-state-preserved
loop-state-preserved c = zeros_more c.args.list.now c.loop-state.state-index c.loop-state-test.true c.if-state-ne0.false c.loop-state.invariant

pub returns : goal.returns
returns c h = zeros_all c.args.list.now c.loop-state.state-index c.loop-state-test.false c.loop-state.invariant
