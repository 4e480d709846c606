use Rattle.std.proofs.Common.{◌+◌, get_or, take, subst}
use Rattle.std.proofs.lemmas.List.{take_more, take_all}
use Rattle.number_sets.specs.Sets.{members}
use Rattle.automaton_runs.specs.Possible.{IsAnywhere}
use Rattle.automaton_runs.proofs.MayArrive.{anywhere_more}
use Rattle.automaton_runs.proofs.possible.anywhere.Goals as goal

pub loop-state-preserved : goal.loop-state-preserved
loop-state-preserved c =
    let i = c.loop-state.state-index in
    anywhere_more (members c.args.all.now) (take c.loop-state.state-index c.args.pool.now) (get_or c.args.pool.now c.loop-state.state-index 0)
    (take (c.loop-state.state-index + 1) c.args.pool.now) c.loop-state.made c.insert_all.new.self
    (take_more c.args.pool.now c.loop-state.state-index 0 c.loop-state-test.true) c.loop-state.invariant c.in_ok-insert_all.ensures

pub returns : goal.returns
returns c = subst (λ qs. IsAnywhere (members c.args.all.now) qs c.loop-state.made) (take_all c.loop-state.state-index c.args.pool.now c.loop-state-test.false) c.loop-state.invariant
