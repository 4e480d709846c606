use Rattle.std.proofs.Common.{map}
use Rattle.term_core.specs.RuleView.{rule_view}
use Rattle.automaton_grow.specs.Limits.{AreNarrowBelow}
use Rattle.automaton_grow.proofs.limits.check_widths.Given as goal

abbrev pub invariant-loop-i : goal.invariant-loop-i
invariant-loop-i l = AreNarrowBelow l.states (map rule_view l.rules) l.i
