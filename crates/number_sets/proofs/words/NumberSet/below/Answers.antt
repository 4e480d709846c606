use Rattle.std.proofs.Common.{arith}
use Rattle.number_sets.specs.Sets.{members}
use Rattle.number_sets.proofs.Shared.{none_below, one_below, all_below}
use Rattle.number_sets.proofs.words.NumberSet.below.Goals as goal

pub loop-number-init : goal.loop-number-init
loop-number-init c = none_below (members c.new-set.result) c.new-set.ensures

pub loop-number-preserved : goal.loop-number-preserved
loop-number-preserved c = one_below (members c.loop-number.set) (members c.insert.new.self) c.loop-number.number c.loop-number.invariant c.in_ok-insert.ensures

pub returns : goal.returns
returns c = all_below (members c.loop-number.set) c.loop-number.number c.args.count (omega arith) c.loop-number.invariant
