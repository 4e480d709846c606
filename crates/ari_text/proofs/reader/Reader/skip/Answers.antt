use Rattle.std.proofs.Common.{arith, rules, ◌-◌}
use Rattle.ari_text.proofs.Bodies.{inside_opening, inside_closing, inside_other, body_read}
use Rattle.ari_text.proofs.reader.Reader.skip.Goals as goal

pub words-preserved-in-Open : goal.words-preserved-in-Open
words-preserved-in-Open c = record {
  read = inside_opening c.args.self.now c.words.self c.next.new.self c.words.open c.in-Some-checked_add.more c.words.invariant.read (rw c.in-Open.is at c.in-Some.ensures.word) (search rules);
  onward = omega (arith, c.words.invariant.onward, c.in-Some.ensures.onward);
}

pub returns-then-open-eq0-clause-body : goal.returns-then-open-eq0-clause-body
returns-then-open-eq0-clause-body c = body_read c.args.self.now c.words.self c.next.new.self c.words.open c.words.invariant.read (rw c.in-Close.is at c.in-Some.ensures.word) c.if-open-eq0.true

pub words-preserved-in-Close : goal.words-preserved-in-Close
words-preserved-in-Close c = record {
  read = inside_closing c.args.self.now c.words.self c.next.new.self c.words.open (c.words.open - 1) c.words.invariant.read (rw c.in-Close.is at c.in-Some.ensures.word)
      (omega (arith, c.if-open-eq0.false));
  onward = omega (arith, c.words.invariant.onward, c.in-Some.ensures.onward);
}

pub words-preserved : goal.words-preserved
words-preserved c = record {
  read = inside_other c.args.self.now c.words.self c.next.new.self c.words.open c.in-Some.word c.words.invariant.read c.in-Some.ensures.word c.in_default-word.not-Open c.in_default-word.not-Close;
  onward = omega (arith, c.words.invariant.onward, c.in-Some.ensures.onward);
}
