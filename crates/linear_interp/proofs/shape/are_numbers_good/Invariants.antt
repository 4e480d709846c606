use Rattle.linear_interp.specs.Entries.{AreGoodBelow}
use Rattle.linear_interp.proofs.shape.are_numbers_good.Given as goal

abbrev pub invariant-loop-k : goal.invariant-loop-k
invariant-loop-k l = AreGoodBelow l.symbols l.symbol l.numbers l.k
