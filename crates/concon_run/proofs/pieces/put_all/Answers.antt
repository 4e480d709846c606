use Rattle.std.proofs.Common.{◌++◌, ◌∙◌, List, ℕ, ap}
use Rattle.std.specs.List.{flat_map}
use Rattle.std.proofs.lemmas.List.{take_all}
use Rattle.concon_run.specs.Pieces.{piece_text}
use Rattle.concon_run.proofs.PieceLists.{pieces-flat}
use Rattle.concon_run.proofs.pieces.put_all.Goals as goal

pub returns : goal.returns
returns c =
    c.pieces.invariant ∙ ap (λ ps. c.args.out.now.items ++ flat_map piece_text ps) (take_all _ _ c.pieces-test.false)
    ∙ ap (λ (x : List ℕ). c.args.out.now.items ++ x) (pieces-flat c.args.pieces.now)
