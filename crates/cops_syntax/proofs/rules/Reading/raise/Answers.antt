use Rattle.std.proofs.Common.{List, arith, refl, ap}
use Rattle.file_text.specs.Syntax.{Node}
use Rattle.cops_syntax.specs.Flat.{reading}
use Rattle.cops_syntax.specs.States.{reading_view}
use Rattle.cops_syntax.proofs.Pushes.{room_of, raised_of}
use Rattle.cops_syntax.proofs.rules.Reading.raise.Goals as goal

pub overflow_add-index_mut : goal.overflow_add-index_mut
overflow_add-index_mut c =
    let v = c.args.self.now.nodes in
    let room = room_of v.items c.args.place c.index_mut.result.now c.requires c.index_mut.ensures.value in
    omega (arith, room, v.ok.0, v.ok.1, v.small)

pub returns : goal.returns
returns c =
    let r = reading_view c.args.self.now in
    ap (λ (ns : List Node). reading r.rules r.part ns r.opens r.last) (raised_of c.args.self.now.nodes.items c.args.place c.index_mut.result.now _ c.requires c.index_mut.ensures.value refl)
