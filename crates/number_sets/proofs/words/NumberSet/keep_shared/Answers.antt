use Rattle.std.proofs.Common.{arith}
use Rattle.number_sets.proofs.Shared.{shared_all}
use Rattle.number_sets.proofs.words.NumberSet.keep_shared.Goals as goal

pub returns : goal.returns
returns c = shared_all c.args.self.now c.args.other.now c.loop-place.self c.loop-place.place c.loop-place.invariant (omega arith)
