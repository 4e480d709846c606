use Rattle.std.proofs.Common.{sym, ◌≡◌, ◌∙◌, ap, subst, arith, ◌+◌}
use Prim.Native.Nat.{suc}
use mathlib.Core.Bool.{true}
use Rattle.flatterm.specs.Laid.{Items}
use Rattle.flatterm.specs.Place.{Rests, place_in}
use Rattle.flatterm.proofs.Seen.{place_past_end, rests_at_cell, rests_at_last, next_of_not_last, none_where_not_some}
use Rattle.flatterm.proofs.flat.settle.Goals as goal

pub returns-in-Some : goal.returns-in-Some
returns-in-Some c = let d = c.over.chain in let i = c.over.invariant in (
  i.0,
  (
    i.1,
    subst (λ (cs : Items). Rests cs d.place) i.0 (rests_at_cell d.before d.items d.after d.place c.read-here.result c.read-here.ensures c.in-Some.field-0 c.in-Some.is),
    subst (λ (cs : Items). place_in cs d.place ≡ place_in cs c.args.chain.now.place) i.0 i.2,
  ),
)

pub returns-then-here : goal.returns-then-here
returns-then-here c = let d = c.over.chain in let i = c.over.invariant in (
  i.0,
  (
    i.1,
    subst (λ (cs : Items). Rests cs d.place) i.0 (rests_at_last d.before d.items d.after d.place c.read-here.result c.read-here.ensures c.if-here.true),
    subst (λ (cs : Items). place_in cs d.place ≡ place_in cs c.args.chain.now.place) i.0 i.2,
  ),
)

pub step-requires : goal.step-requires
step-requires c = let d = c.over.chain in next_of_not_last d.before d.items d.after d.place c.read-here.result c.read-here.ensures c.if-here.false

pub over-preserved : goal.over-preserved
over-preserved c = let d = c.over.chain in let i = c.over.invariant in let e = c.step.new.self in let s = c.step.ensures in
    let same : d.place + 1 ≡ suc d.place = omega arith in
    let stays = place_past_end d.before d.items (d.after, true) d.place c.read-here.result c.read-here.ensures (none_where_not_some c.read-here.result.body.cell c.in_default.not-Some) in
    (s.0 ∙ i.0, omega (arith, i.1, s.1), subst (λ (cs : Items). place_in cs e.place ≡ place_in cs c.args.chain.now.place) (sym s.0) (ap (place_in d.items) (s.1 ∙ same) ∙ stays ∙ i.2))
