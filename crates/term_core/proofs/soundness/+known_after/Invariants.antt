use Rattle.std.proofs.Common.{◌≡◌, ◌<◌, ◌^◌, drop}
use Rattle.rewriting.specs.Variables.{with_variables_of}
use Rattle.term_core.specs.View.{views}
use Rattle.term_core.specs.Numbering.{numbers_from}
use Rattle.term_core.proofs.soundness.+known_after.Given as goal

abbrev pub invariant-loop-arg : goal.invariant-loop-arg
invariant-loop-arg l = record {
  same : with_variables_of (numbers_from 0 l.next) (views (drop l.arg-index l.arg-items)) ≡ with_variables_of (numbers_from 0 l.fn.known) (views l.arg-items);
  few : l.next < 2 ^ 31;
}
