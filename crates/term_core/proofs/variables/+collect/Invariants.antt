use Rattle.std.proofs.Common.{◌≡◌, drop}
use Rattle.rewriting.specs.Variables.{with_variables_of}
use Rattle.term_core.specs.View.{views}
use Rattle.term_core.proofs.variables.+collect.Given as goal

abbrev pub invariant-loop-arg : goal.invariant-loop-arg
invariant-loop-arg l = with_variables_of l.out.items (views (drop l.arg-index l.arg-items)) ≡ with_variables_of l.fn.out.items (views l.arg-items)
