use Rattle.std.proofs.Common.{◌≡◌, ◌∙◌, ℕ, List, false, get_or, sym, ap}
use Rattle.cops_names.specs.NameLists.{is_among}
use Rattle.cops_read.specs.Shapes.{shape_of}
use Rattle.cops_read.proofs.Shaped.{none_shown}
use Rattle.cops_read.proofs.block.Block.has.Goals as goal

pub returns-else-self-shape : goal.returns-else-self-shape
returns-else-self-shape c =
    let at : c.shape.result ≡ shape_of c.args.name.now = c.shape.ensures.shape ∙ ap shape_of c.as_bytes.ensures.value in
    let unmarked : get_or c.self.inside.shapes (shape_of c.args.name.now) false ≡ false = ap (λ (k : ℕ). get_or c.self.inside.shapes k false) (sym at) ∙ c.if-self-shape.false in
    c.if-self-shape.false ∙ sym (none_shown c.self.inside.shapes c.self.inside.names c.args.name.now c.self.invariant unmarked)
    ∙ ap (λ (names : List (List ℕ)). is_among names c.args.name.now) c.self.view_is
