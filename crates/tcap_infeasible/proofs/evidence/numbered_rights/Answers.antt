use Rattle.std.proofs.Common.{arith}
use Rattle.tcap_infeasible.proofs.Sides.{one_numbered, all_numbered}
use Rattle.tcap_infeasible.proofs.evidence.numbered_rights.Goals as goal

pub loop-cond-preserved : goal.loop-cond-preserved
loop-cond-preserved c =
    one_numbered c.args.conds.now c.loop-cond.cond-index c.loop-cond.numbering c.numbered.new.self c.loop-cond.rights.items c.push.new.self.items c.cond-item.result
    c.in_ok-numbered.field-0 c.loop-cond-test.true c.cond-item.is c.requires.fit c.loop-cond.invariant
    c.in_ok-numbered.ensures.row c.in_ok-numbered.ensures.front c.in_ok-numbered.ensures.distinct
    (record { names = c.in_ok-numbered.ensures.names; below = c.in_ok-numbered.ensures.below }) c.in_ok-push.ensures.items

pub returns : goal.returns
returns c = all_numbered c.args.conds.now c.loop-cond.cond-index c.loop-cond.numbering c.loop-cond.rights.items c.requires.few (omega arith) c.loop-cond-test.false c.loop-cond.invariant
