use Rattle.std.proofs.Common.{◌≡◌, ◌+◌, length, subst, arith}
use Rattle.std.proofs.lemmas.Grind.{common_steps}
use Rattle.unravel.proofs.Progress.{Progress, advance}
use Rattle.unravel.proofs.rules.rules_of.Goals as goal

pub loop-i-preserved : goal.loop-i-preserved
loop-i-preserved c =
    let next = advance c.args.first c.args.rules.now c.loop-i.i c.loop-i.symbol c.loop-i.out.items c.push_rules.new.out.items c.index-rules-i.result c.in-Ok.field-0
    c.loop-i.invariant c.loop-i-test.true c.index-rules-i.is c.in-Ok.ensures.rules c.in-Ok.ensures.counted in
    subst (λ n. Progress c.args.first c.args.rules.now (c.loop-i.i + 1) (c.loop-i.symbol + n) c.push_rules.new.out.items)
    (let count : length c.index-rules-i.result.conds.items ≡ c.len.result = grind (arith, common_steps) in count) next
