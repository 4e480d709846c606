use Rattle.std.proofs.Common.{◌≡◌, drop, map}
use Rattle.rewriting.specs.Variables.{occurrences_in}
use Rattle.term_core.specs.View.{views}
use Rattle.term_core.specs.Counting.{bit, with_counts}
use Rattle.term_core.proofs.variables.+mark_all.Given as goal

abbrev pub invariant-loop-arg : goal.invariant-loop-arg
invariant-loop-arg l =
    with_counts (λ x. occurrences_in x (views (drop l.arg-index l.arg-items))) l.from (map bit l.seen) ≡ with_counts (λ x. occurrences_in x (views l.arg-items)) l.from (map bit l.fn.seen)
