use Rattle.std.proofs.Common.{◌≡◌, ◌<◌, ◌^◌, drop, map}
use Rattle.rewriting.specs.Prelude.{sides, with_variables_of}
use Rattle.term_core.specs.RuleView.{condition_view}
use Rattle.term_core.specs.Numbering.{numbers_from}
use Rattle.term_core.proofs.soundness.known_after_all.Given as goal

abbrev pub invariant-loop-cond : goal.invariant-loop-cond
invariant-loop-cond l = record {
  same : with_variables_of (numbers_from 0 l.next) (sides (map condition_view (drop l.cond-index l.conds))) ≡ with_variables_of (numbers_from 0 l.fn.known) (sides (map condition_view l.conds));
  few : l.next < 2 ^ 31;
}
