use Rattle.std.proofs.Common.{drop, map, ◌↔◌}
use Rattle.rewriting.specs.Prelude.{sides, Each}
use Rattle.term_core.specs.SystemView.{HasSymbolsBelow}
use Rattle.term_core.specs.RuleView.{condition_view}
use Rattle.term_core.proofs.soundness.have_symbols_below.Given as goal

abbrev pub invariant-loop-cond : goal.invariant-loop-cond
invariant-loop-cond l = Each (HasSymbolsBelow l.count) (sides (map condition_view l.conds)) ↔ Each (HasSymbolsBelow l.count) (sides (map condition_view (drop l.cond-index l.conds)))
