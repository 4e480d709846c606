use Rattle.std.proofs.Common.{◌≡◌, drop}
use Rattle.rewriting.specs.Variables.{with_variables_of}
use Rattle.term_core.specs.View.{views}
use Rattle.unravel.proofs.sides.+add_variables.Given as goal

abbrev pub invariant-loop-arg : goal.invariant-loop-arg
invariant-loop-arg l = with_variables_of l.order.items (views (drop l.arg-index l.arg-items)) ≡ with_variables_of l.fn.order.items (views l.arg-items)
