use Rattle.cert_reading.proofs.Prelude.{refl, then_reads, next_argument, symbol_end}
use Rattle.cert_reading.proofs.terms.argument_closed.Goals as goal

pub returns-then-closed_or : goal.returns-then-closed_or
returns-then-closed_or c = λ names f k n g fs m. then_reads (c.closed_or.ensures.comma c.if-closed_or.true names f k _ _ _ refl m) (c.text.ensures.read names (next_argument n g fs) _ refl)

pub returns : goal.returns
returns c = λ names f k n g fs m. then_reads (c.closed_or.ensures.close c.if-closed_or.false names f k _ _ _ refl m) (c.text-2.ensures.read names (symbol_end n g fs) _ refl)
