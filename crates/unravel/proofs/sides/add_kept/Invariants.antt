use Rattle.std.proofs.Common.{◌≡◌, drop}
use Rattle.rewriting.specs.Prelude.{with_variables, with_variables_of, variable_terms}
use Rattle.term_core.specs.View.{view}
use Rattle.unravel.proofs.sides.add_kept.Given as goal

abbrev pub invariant-loop-x : goal.invariant-loop-x
invariant-loop-x l = with_variables_of l.order.items (variable_terms (drop l.x-index l.known)) ≡ with_variables_of (with_variables l.fn.order.items (view l.term)) (variable_terms l.known)
