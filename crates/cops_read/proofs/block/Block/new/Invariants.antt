use Rattle.std.proofs.Common.{◌≡◌, length, map, take}
use Rattle.cops_read.specs.Shapes.{AreShown}
use Rattle.cops_read.proofs.block.Block.new.Given as goal

abbrev pub invariant-names : goal.invariant-names
invariant-names l = record { all : length l.shapes ≡ 2048; shown : AreShown l.shapes (map (λ k. k.now) (take l.name-index l.name-items)) }
