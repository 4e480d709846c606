use Rattle.std.proofs.Common.{◌≡◌, drop, length}
use Rattle.term_core.specs.View.{views}
use Rattle.matching.proofs.Progress.{Progress}
use Rattle.matching.proofs.owned.+taking.Given as goal

abbrev pub invariant-take_all-loop-i : goal.invariant-take_all-loop-i
invariant-take_all-loop-i l = record {
  progress : Progress l.fn.values l.values (views l.patterns) (views l.fn.subjects.items) (views (drop l.i l.patterns)) (views (drop l.i l.left.items));
  paired : length l.left.items ≡ length l.patterns;
}
