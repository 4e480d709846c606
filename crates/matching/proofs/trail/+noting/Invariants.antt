use Rattle.std.proofs.Common.{drop}
use Rattle.term_core.specs.View.{views}
use Rattle.matching.specs.Trails.{IsNoted}
use Rattle.matching.proofs.Progress.{Progress}
use Rattle.matching.proofs.trail.+noting.Given as goal

abbrev pub invariant-match_all_noted-loop-i : goal.invariant-match_all_noted-loop-i
invariant-match_all_noted-loop-i l = record {
  progress : Progress l.fn.values l.values (views l.ps) (views l.ss) (views (drop l.i l.ps)) (views (drop l.i l.ss));
  noted : IsNoted l.fn.values l.fn.trail.items l.values l.trail.items;
}
