use Rattle.std.proofs.Common.{◌∙◌, true, arith}
use Rattle.std.proofs.Math.ListN.{length-set}
use Rattle.cops_read.proofs.Shaped.{shown_next}
use Rattle.cops_read.proofs.block.Block.new.Goals as goal

pub names-preserved : goal.names-preserved
names-preserved c = record {
  all = length-set c.names.shapes c.shape.result true ∙ c.names.invariant.all;
  shown = shown_next c.names.shapes c.shape.result c.names.name-index c.names-name-items.result.now _ c.as_bytes.result.now c.names-test.true
      (omega (arith, c.names.invariant.all)) c.as_bytes.ensures.value c.shape.ensures.shape c.names.invariant.shown;
}
