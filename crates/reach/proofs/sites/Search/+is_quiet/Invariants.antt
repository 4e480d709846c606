use Rattle.std.proofs.Common.{drop}
use Rattle.term_core.specs.View.{views}
use Rattle.reach.specs.Quiet.{AreQuiet}
use Rattle.reach.proofs.sites.Search.+is_quiet.Given as goal

abbrev pub invariant-loop-arg : goal.invariant-loop-arg
invariant-loop-arg l = AreQuiet l.self.sys.now (views (drop l.arg-index l.arg-items)) → AreQuiet l.self.sys.now (views l.arg-items)
