use Rattle.std.proofs.lemmas.Bool.{false≢true}
use Rattle.rewriting.specs.Substitutions.{values_of}
use Rattle.term_core.specs.View.{view}
use Rattle.critical_pairs.proofs.Measures.{few_numbers, part_fits, both_fit}
use Rattle.std.proofs.Common.{arith}
use Rattle.critical_pairs.proofs.fitting.do_both_fit.Goals as goal

pub returns-in_default-room_under-2 : goal.returns-in_default-room_under-2
returns-in_default-room_under-2 c v e = (
  λ h. absurd (false≢true h),
  λ f. absurd (part_fits (values_of c.args.m.now) (view c.args.t.now) (view c.in-Some.part.now) c.args.pos.now c.in-Some.ensures
      c.in_default-room_under-2.ensures.none f.0),
)

pub overflow_cast-pos : goal.overflow_cast-pos
overflow_cast-pos c =
    let few = few_numbers (values_of c.args.m.now) (view c.args.t.now) (view c.in-Some.part.now) c.args.pos.now c.in-Some.ensures c.in-Some-room_under.ensures.levels in
    omega (arith, few)

pub overflow_sub-pos : goal.overflow_sub-pos
overflow_sub-pos c = few_numbers (values_of c.args.m.now) (view c.args.t.now) (view c.in-Some.part.now) c.args.pos.now c.in-Some.ensures c.in-Some-room_under.ensures.levels

pub returns : goal.returns
returns c v e =
    let whole = c.in-Some-room_under.ensures in
    let h = c.room_under-3.ensures in
    rw c.is_some.ensures (both_fit (values_of c.args.m.now) (view c.args.t.now) (view c.in-Some.part.now) c.args.pos.now c.in-Some.ensures
    (view c.args.u.now) c.in-Some-room_under.spare c.in-Some-room_under-2.rest whole.nodes whole.levels c.in-Some-room_under-2.ensures.nodes
    c.room_under-3.result h.nodes h.levels h.none v e)
