use Rattle.std.proofs.Common.{◌≡◌, ◌++◌, map, drop}
use Rattle.rewriting.specs.Unraveling.{all_keeper_arities}
use Rattle.term_core.specs.RuleView.{rule_view}
use Rattle.unravel.proofs.symbols.push_all_arities.Given as goal

abbrev pub invariant-loop-rule : goal.invariant-loop-rule
invariant-loop-rule l = l.out.items ++ all_keeper_arities (map rule_view (drop l.rule-index l.rules)) ≡ l.fn.out.items ++ all_keeper_arities (map rule_view l.rules)
