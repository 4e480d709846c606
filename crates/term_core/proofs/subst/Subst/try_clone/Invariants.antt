use Rattle.std.proofs.Common.{◌≡◌}
use Rattle.std.specs.FinMap as map
use Rattle.term_core.proofs.Entries.{with_entries}
use Rattle.term_core.proofs.subst.Subst.try_clone.Given as goal

abbrev pub invariant-loop-x : goal.invariant-loop-x
invariant-loop-x l = with_entries l.copy l.x-iterator ≡ with_entries map.empty l.initial.x-iterator
