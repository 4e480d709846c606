use Rattle.std.proofs.Common.{drop, ◌↔◌}
use Rattle.term_core.specs.SystemView.{HaveSymbolsBelow}
use Rattle.term_core.specs.View.{views}
use Rattle.term_core.proofs.soundness.+has_symbols_below.Given as goal

abbrev pub invariant-loop-arg : goal.invariant-loop-arg
invariant-loop-arg l = HaveSymbolsBelow l.count (views l.arg-items) ↔ HaveSymbolsBelow l.count (views (drop l.arg-index l.arg-items))
