use Rattle.term_core.specs.View.{view}
use Rattle.rewriting.proofs.Laws.{well_formed}
use Rattle.automaton_grow.proofs.Whole.{well_grown}
use Rattle.automaton_grow.proofs.grow.Goals as goal

pub returns-clause-closed : goal.returns-clause-closed
returns-clause-closed c = well_grown c.args.sys.now (view c.args.s.now) c.grow_of.result (well_formed c.args.sys.now c.rules.ensures.sound) c.grow_of.ensures
