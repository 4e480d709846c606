use Rattle.std.proofs.Common.{arith}
use Rattle.number_sets.specs.Sets.{members}
use Rattle.tree_automata.proofs.Included.{inclusion_none, inclusion_more, inclusion_all}
use Rattle.tree_automata.proofs.sides.inclusion.Goals as goal

pub loop-p-init : goal.loop-p-init
loop-p-init c = inclusion_none c.args.index.now c.new-made.result c.new-made.ensures

pub loop-p-preserved : goal.loop-p-preserved
loop-p-preserved c =
    inclusion_more c.args.index.now c.loop-p.p c.loop-p.made c.insert_all.new.self (members c.in_ok-including.field-0) c.loop-p.invariant c.in_ok-including.ensures c.in_ok-insert_all.ensures

pub returns : goal.returns
returns c =
    inclusion_all c.args.index.now c.loop-p.p c.loop-p.made c.loop-p.invariant
    (let past = c.loop-p-test.false in let up = c.loop-p.auto.p-end in let e = c.states-p-end.ensures in omega arith)
