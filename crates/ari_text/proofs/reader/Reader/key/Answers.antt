use Rattle.std.proofs.Common.{arith}
use Rattle.ari_text.proofs.Bodies.{passed_more}
use Rattle.ari_text.proofs.reader.Reader.key.Goals as goal

pub parts-preserved : goal.parts-preserved
parts-preserved c = record {
  read = passed_more c.args.self.now c.parts.self c.next.new.self c.name.new.self c.skip.new.self c.in_ok-key.key.text.now c.parts.invariant.read
      (rw c.in-Some-Open.field-0-is at c.in-Some-Open.ensures.word) c.in_ok-key.ensures.word c.if-not-is.ensures c.in_ok-skip.ensures.body;
  onward = omega (arith, c.parts.invariant.onward, c.in-Some-Open.ensures.onward, c.in_ok-key.ensures.onward, c.in_ok-skip.ensures.onward);
}
