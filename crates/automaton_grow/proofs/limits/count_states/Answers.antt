use Rattle.std.proofs.Common.{arith}
use Rattle.term_core.specs.View.{view}
use Rattle.automaton_grow.proofs.Sizes.{inner_size}
use Rattle.automaton_grow.proofs.Rules.{system_fits}
use Rattle.automaton_grow.proofs.limits.count_states.Goals as goal

pub overflow_add-inner : goal.overflow_add-inner
overflow_add-inner c = omega (arith, inner_size (view c.args.s.now), c.inner.ensures, c.requires.nodes)

pub count_from-requires-clause-fit : goal.count_from-requires-clause-fit
count_from-requires-clause-fit c = system_fits c.args.sys.now _ c.rules.ensures.rules c.rules.ensures.sound

pub count_from-requires-clause-small : goal.count_from-requires-clause-small
count_from-requires-clause-small c = omega (arith, inner_size (view c.args.s.now), c.inner.ensures, c.requires.nodes)
