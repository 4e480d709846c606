use Rattle.std.proofs.Common.{◌≡◌, [], ◌∷◌, ◌++◌, ℕ, List, length, length-append, Some, slice_get, ap, sym, subst, arith}
use Rattle.number_sets.specs.declared.rows.NumberRelation.{NumberRelation}
use Rattle.automaton_runs.specs.Choices.{as_lists}
use Rattle.automaton_runs.specs.Leaves.{AreStatesIn}
use Rattle.automaton_runs.proofs.BatchParts.{each_more}
use Rattle.automaton_runs.proofs.tails.leaves.Goals as goal

pub loop-place-preserved : goal.loop-place-preserved
loop-place-preserved c =
    let items : c.push.new.self.items ≡ c.loop-place.made.items ++ c.in_ok-leaf.field-0 ∷ [] = c.in_ok-push.ensures.items in
    let long = c.loop-place.invariant.long in
    let longer : length c.push.new.self.items ≡ length (c.loop-place.made.items ++ c.in_ok-leaf.field-0 ∷ []) = ap length items in
    let here : AreStatesIn (as_lists c.args.lists.now) (length c.loop-place.made.items) c.in_ok-leaf.field-0 = subst
    (λ (i : ℕ). AreStatesIn (as_lists c.args.lists.now) i c.in_ok-leaf.field-0) (sym long) c.in_ok-leaf.ensures in
    record {
      long = omega (arith, simp length-append at longer);
      each = λ place r e.
          each_more (AreStatesIn (as_lists c.args.lists.now)) c.loop-place.made.items c.in_ok-leaf.field-0 c.loop-place.invariant.each here place r
          (subst (λ (xs : List NumberRelation). slice_get xs place ≡ Some r) items e);
    }
