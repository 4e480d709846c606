use Rattle.std.proofs.Common.{map, length, arith}
use Rattle.std.proofs.lemmas.List.{length-map}
use Rattle.term_core.specs.HeadView.{head_view}
use Rattle.lpo.proofs.Placing.{within_heads}
use Rattle.lpo.proofs.HeadOrder.{distinct_heads}
use Rattle.precedence_search.proofs.Turning.{last_put, put_in_place}
use Rattle.precedence_search.proofs.walk.put_last.Goals as goal

pub returns-clause-last : goal.returns-clause-last
returns-clause-last c = last_put c.args.heads.now c.args.walk.now.prefix.items c.push.new.self.items c.args.f _ c.requires.within c.in_ok-push.ensures.items

pub overflow_cast-len : goal.overflow_cast-len
overflow_cast-len c =
    let order = map head_view c.args.walk.now.prefix.items in
    let most = within_heads (map head_view c.args.heads.now) order (length order) c.args.walk.now.places.items c.requires.in_place in
    let few = c.requires.few in
    let many = length-map c.args.heads.now head_view in
    let items = length-map c.args.walk.now.prefix.items head_view in
    let held = c.len.ensures in
    let more = c.in_ok-push.ensures.len in
    let ok = c.args.walk.now.prefix.ok.0 in
    omega (arith, most, few, many, items, held, more, ok)

pub returns-clause-in_place : goal.returns-clause-in_place
returns-clause-in_place c =
    put_in_place (map head_view c.args.heads.now) (map head_view c.args.walk.now.prefix.items) (map head_view c.push.new.self.items) c.args.f c.len.result c.args.walk.now.places.items
    (distinct_heads (map head_view c.args.heads.now) c.requires.sorted)
    (last_put c.args.heads.now c.args.walk.now.prefix.items c.push.new.self.items c.args.f _ c.requires.within c.in_ok-push.ensures.items) c.requires.in_place c.requires.free
    (let e = c.len.ensures in let ok = c.push.new.self.ok.0 in let many = length-map c.push.new.self.items head_view in omega (arith, e, ok, many))
