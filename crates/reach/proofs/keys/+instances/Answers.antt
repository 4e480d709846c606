use Rattle.std.proofs.Common.{◌∙◌}
use Rattle.reach.proofs.Instances.{symbol_cells}
use Rattle.reach.proofs.keys.+instances.Goals as goal

pub add_instance-returns-in_ok-push-in-Fun : goal.add_instance-returns-in_ok-push-in-Fun
add_instance-returns-in_ok-push-in-Fun t c =
    symbol_cells c.args.values.now c.args.t.now c.in-Fun.f c.in-Fun.args c.in-Fun.is c.args.out.now.items c.push-in-Fun.new.self.items c.add_instances.new.out.items c.len.result
    c.add_instances.result (c.len.ensures ∙ c.in-Fun.args.ok.0) c.in_ok-push-in-Fun.ensures.items (rw c.deref.ensures.value at c.add_instances.ensures)
