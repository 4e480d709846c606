use Rattle.search_cases.proofs.Each.{fit_at, short_at}
use Rattle.search_cases.proofs.replayed.are_replayed.Goals as goal

pub is_replayed-requires-clause-left : goal.is_replayed-requires-clause-left
is_replayed-requires-clause-left c = (fit_at c.args.conds.now c.ds.i c.in-Some.cond.now c.requires.fit c.in-Some.ensures.lookup.3.0 c.in-Some.ensures.lookup.1).0

pub is_replayed-requires-clause-right : goal.is_replayed-requires-clause-right
is_replayed-requires-clause-right c = (fit_at c.args.conds.now c.ds.i c.in-Some.cond.now c.requires.fit c.in-Some.ensures.lookup.3.0 c.in-Some.ensures.lookup.1).1

pub is_replayed-requires-clause-short : goal.is_replayed-requires-clause-short
is_replayed-requires-clause-short c = short_at c.args.ds.now c.ds.i c.index-ds-i.result c.requires.short c.ds-test.true c.index-ds-i.is
