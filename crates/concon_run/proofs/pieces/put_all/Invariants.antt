use Rattle.std.proofs.Common.{◌≡◌, ◌++◌, take}
use Rattle.std.specs.List.{flat_map}
use Rattle.concon_run.specs.Pieces.{piece_text}
use Rattle.concon_run.proofs.pieces.put_all.Given as goal

abbrev pub invariant-pieces : goal.invariant-pieces
invariant-pieces l = l.out.items ≡ l.fn.out.items ++ flat_map piece_text (take l.piece-index l.pieces)
