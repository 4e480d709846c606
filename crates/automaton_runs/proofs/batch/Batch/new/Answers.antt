use Rattle.std.proofs.Common.{◌≡◌, ◌↔◌, ◌<◌, [], ◌∷◌, ◌++◌, ℕ, List, length, length-append, get_or, Some, slice_get, ap, sym, subst, arith}
use Rattle.std.proofs.lemmas.Option.{slice_get-get_or}
use Rattle.number_sets.specs.Sets.{members}
use Rattle.number_sets.specs.Relation.{Relates}
use Rattle.number_sets.specs.declared.rows.NumberRelation.{NumberRelation}
use Rattle.automaton_runs.specs.Choices.{Batch}
use Rattle.automaton_runs.proofs.BatchParts.{each_more, all_with, states_in_front}
use Rattle.automaton_runs.proofs.batch.Batch.new.Goals as goal

pub loop-state-preserved : goal.loop-state-preserved
loop-state-preserved c =
    let front = c.args.front.now in
    let i = c.loop-state.state-index in
    let n = length c.args.tails.now.lists in
    let made = c.insert_all.new.self in
    let items : c.push.new.self.items ≡ c.loop-state.leaves.items ++ c.insert_all.new.self ∷ [] = c.in_ok-push.ensures.items in
    let long = c.loop-state.invariant.long in
    let longer : length c.push.new.self.items ≡ length (c.loop-state.leaves.items ++ c.insert_all.new.self ∷ []) = ap length items in
    let P = λ (place : ℕ) (r : NumberRelation). (state : ℕ) × (slice_get c.args.front.now place ≡ Some state) × ((q k : ℕ) → Relates r q k ↔ ((k < length c.args.tails.now.lists) × (q ≡ state))) in
    let here : P c.loop-state.state-index c.insert_all.new.self = (
      get_or c.args.front.now c.loop-state.state-index 0,
      slice_get-get_or c.args.front.now c.loop-state.state-index 0 c.loop-state-test.true,
      all_with (length c.args.tails.now.lists) (get_or c.args.front.now c.loop-state.state-index 0) c.new-leaf.result c.insert_all.new.self (members c.all.result.now)
          c.new-leaf.ensures c.all.ensures c.in_ok-insert_all.ensures,
    ) in
    record {
      long = omega (arith, simp length-append at longer);
      each = λ place r e.
          each_more P c.loop-state.leaves.items c.insert_all.new.self c.loop-state.invariant.each (subst (λ (j : ℕ). P j c.insert_all.new.self) (sym long) here) place r
          (subst (λ (xs : List NumberRelation). slice_get xs place ≡ Some r) items e);
    }

pub invariant_of-result : goal.invariant_of-result
invariant_of-result c =
    let b : Batch = record { front = c.args.front.now; width = c.args.tails.now.width; tails = c.args.tails.now.lists } in
    let long = c.loop-state.invariant.long in
    record {
      places = omega (arith, c.loop-state-test.false, c.loop-state.auto.state-index-end);
      leaves = λ place r e. let (state, at, is) = c.loop-state.invariant.each place r e in states_in_front b place state r at is;
    }
