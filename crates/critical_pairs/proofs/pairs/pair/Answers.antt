use Rattle.rewriting.specs.Substitutions.{values_of}
use Rattle.term_core.specs.View.{view}
use Rattle.critical_pairs.proofs.Sizes.{there_under}
use Rattle.critical_pairs.proofs.pairs.pair.Goals as goal

pub contracted-requires-clause-there : goal.contracted-requires-clause-there
contracted-requires-clause-there c = there_under (values_of c.args.m.now) (view c.args.outer.now.left) (view c.in_ok-source.source) c.args.triple.now.pos.now c.in_ok-source.ensures.0 c.requires.there
