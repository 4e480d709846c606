use Rattle.std.proofs.Common.{sym, subst, ap}
use Rattle.flatterm.specs.Laid.{IsWhole}
use Rattle.flatterm.specs.Place.{Rests, is_zero}
use Rattle.flatterm.proofs.Seen.{rests_at_start}
use Rattle.flatterm.proofs.flat.Flat.rewind.Goals as goal

pub invariant_of-self : goal.invariant_of-self
invariant_of-self c = let e = c.rewind.ensures in let d = c.rewind.new.self in
    let w : IsWhole d.items = subst IsWhole (sym e.0) c.self.invariant.0.0 in ((w, subst (λ i. Rests d.items i) (sym e.1) (rests_at_start d.items w)), ap is_zero (sym e.1))
