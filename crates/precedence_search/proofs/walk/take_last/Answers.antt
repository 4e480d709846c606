use Rattle.term_core.specs.HeadView.{head_view}
use Rattle.std.proofs.Common.{map, arith}
use Rattle.lpo.proofs.HeadOrder.{distinct_heads}
use Rattle.precedence_search.proofs.Turning.{taken_inside, taken_in_place, taken_known}
use Rattle.precedence_search.proofs.walk.take_last.Goals as goal

pub returns-in_err-f-clause-in_place : goal.returns-in_err-f-clause-in_place
returns-in_err-f-clause-in_place c =
    absurd
    (taken_known c.args.heads.now c.args.walk.now.prefix.items c.pop.new.self.items c.in_ok-head.head c.in_ok-head.ensures.items c.args.walk.now.places.items c.requires.in_place c.in_err-f.ensures)

pub index_mut-requires : goal.index_mut-requires
index_mut-requires c =
    let inside = taken_inside c.args.heads.now c.args.walk.now.prefix.items c.pop.new.self.items c.in_ok-head.head c.in_ok-head.ensures.items c.args.walk.now.places.items
    c.requires.in_place c.in_ok-f.f (distinct_heads (map head_view c.args.heads.now) c.requires.sorted) c.in_ok-f.ensures in
    let ok = c.args.walk.now.places.ok.0 in omega (arith, inside, ok)

pub returns-clause-in_place : goal.returns-clause-in_place
returns-clause-in_place c =
    taken_in_place c.args.heads.now c.args.walk.now.prefix.items c.pop.new.self.items c.in_ok-head.head c.in_ok-head.ensures.items c.args.walk.now.places.items c.requires.in_place c.in_ok-f.f
    (distinct_heads (map head_view c.args.heads.now) c.requires.sorted) c.in_ok-f.ensures
