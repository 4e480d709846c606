use Rattle.std.proofs.Common.{◌<◌, ◌∙◌, length, arith}
use Rattle.matching.proofs.Noted.{last_back, last_before}
use Rattle.matching.proofs.trail.take_back.Goals as goal

pub trail-preserved : goal.trail-preserved
trail-preserved c =
    let split = c.in-Some.ensures.items in
    let low : c.args.from < length c.trail.trail.items = omega arith in
    record {
      values = last_back c.args.from c.in-Some.x c.pop.new.self.items c.trail.trail.items split low c.trail.values c.unbind.new.self c.unbind.ensures ∙ c.trail.invariant.values;
      before = last_before c.args.from c.in-Some.x c.pop.new.self.items c.trail.trail.items split low ∙ c.trail.invariant.before;
    }
