use Rattle.std.proofs.Common.{◌∙◌, sym, arith}
use Rattle.automaton_grow.proofs.Walks.{state_later, state_none}
use Rattle.automaton_grow.proofs.sides.state_of.Goals as goal

pub loop-i-preserved : goal.loop-i-preserved
loop-i-preserved c =
    sym (state_later c.args.leaves.now c.args.states.now c.loop-i.i c.args.x (omega (arith, c.min-count.ensures)) (omega (arith, c.min-count.ensures)) c.if-x-leaves.false) ∙ c.loop-i.invariant

pub returns : goal.returns
returns c = sym (state_none c.args.leaves.now c.args.states.now c.loop-i.i c.args.x (omega (arith, c.min-count.ensures))) ∙ c.loop-i.invariant
