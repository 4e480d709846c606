use Rattle.std.proofs.Common.{map}
use Rattle.term_core.specs.RuleView.{rule_view}
use Rattle.lpo.specs.Listed.{AreListed}
use Rattle.lpo.proofs.listed.note_rules.Given as goal

abbrev pub invariant-rules : goal.invariant-rules
invariant-rules l = AreListed (map rule_view l.rules) l.i l.lists
