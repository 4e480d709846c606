use Rattle.std.proofs.Common.{drop, map}
use Rattle.reach_lists.specs.Laws.{EachOf}
use Rattle.term_core.specs.RuleView.{rule_view}
use Rattle.reach.specs.Ready.{HasConditions}
use Rattle.reach.proofs.sites.have_conditions.Given as goal

abbrev pub invariant-rules : goal.invariant-rules
invariant-rules l = EachOf HasConditions (map rule_view (drop l.rule-index l.rules)) → EachOf HasConditions (map rule_view l.rules)
