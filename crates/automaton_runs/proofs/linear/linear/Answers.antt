use Rattle.std.proofs.Common.{arith}
use Rattle.term_core.specs.View.{view}
use Rattle.automaton_runs.proofs.NumberedTerms.{leaves_few}
use Rattle.automaton_runs.proofs.linear.linear.Goals as goal

pub put_numbers-requires : goal.put_numbers-requires
put_numbers-requires c = let low = c.requires.nodes in omega (arith, leaves_few (view c.args.t.now))
