use Rattle.std.proofs.Common.{◌≡◌, take, map}
use Rattle.rewriting.specs.Overlaps.{conditions_under}
use Rattle.term_core.specs.RuleView.{condition_view}
use Rattle.unification.specs.Answers.{renaming}
use Rattle.prepared_system.proofs.renaming.rename_conds.Given as goal

abbrev pub invariant-loop-cond : goal.invariant-loop-cond
invariant-loop-cond l = map condition_view l.out.items ≡ conditions_under (renaming 2 l.add) (map condition_view (take l.cond-index l.conds))
