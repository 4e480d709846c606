use Rattle.number_sets.proofs.Bits.{alone_is}
use Rattle.number_sets.proofs.words.NumberSet.alone.Goals as goal

pub returns : goal.returns
returns c = alone_is c.new-set.result c.insert.new.self c.args.number c.new-set.ensures c.in_ok-insert.ensures
