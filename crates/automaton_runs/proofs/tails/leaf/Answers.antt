use Rattle.std.proofs.Common.{◌≡◌, ◌↔◌, ◌+◌, ◌<◌, ◌≤◌, List, ℕ, Some, length, slice_get, sym, subst, arith}
use Rattle.std.proofs.lemmas.List.{length-map}
use Rattle.number_sets.specs.Relation.{Relates}
use Rattle.number_sets.specs.declared.rows.NumberRelation.{NumberRelation}
use Rattle.automaton_runs.specs.Choices.{as_lists}
use Rattle.automaton_runs.proofs.BatchParts.{HasAt, leaf_none, leaf_put, leaf_skip, leaf_all, one_state, no_state, list_at, got, not_got}
use Rattle.automaton_runs.proofs.tails.leaf.Goals as goal
use Rattle.automaton_runs.proofs.tails.leaf.Goals.{in-Some+in_ok-insert, in_default}

pub loop-k-init : goal.loop-k-init
loop-k-init c = leaf_none (as_lists c.args.lists.now) c.args.place c.new-made.result c.new-made.ensures

pub loop-k-preserved : goal.loop-k-preserved
loop-k-preserved c =
    let lists = as_lists c.args.lists.now in
    let place = c.args.place in
    let k = c.loop-k.k in
    let list = c.index-lists-k.result.items in
    let at : slice_get (as_lists c.args.lists.now) c.loop-k.k ≡ Some c.index-lists-k.result.items = list_at c.args.lists.now c.loop-k.k c.index-lists-k.result c.loop-k-test.true c.index-lists-k.is in
    let P = λ (r : NumberRelation). (q k : ℕ) → Relates r q k ↔ ((k < c.loop-k.k + 1) × HasAt (as_lists c.args.lists.now) c.args.place k q) in
    elim c.match-get.branch [
      | in-Some+in_ok-insert w ↦
          let state = w.in-Some.state.now in
          let e = w.in-Some.ensures.lookup in
          let is : slice_get c.index-lists-k.result.items c.args.place ≡ Some w.in-Some.state.now =
          subst (λ (l : List ℕ). slice_get l c.args.place ≡ Some w.in-Some.state.now) c.deref.ensures.value (got c.deref.result.now c.args.place w.in-Some.state.now e.0 e.1) in
          subst P (sym w.made-is)
          (leaf_put (HasAt lists place) c.loop-k.made k c.loop-k.invariant w.insert.new.self state w.in_ok-insert.ensures (list, at, is) (one_state lists place k state list at is))
      | in_default w ↦
          let past = subst (λ (l : List ℕ). length l ≤ c.args.place) c.deref.ensures.value (not_got c.deref.result.now c.args.place w.in_default.ensures.lookup.0) in
          subst P (sym w.made-is) (leaf_skip (HasAt lists place) c.loop-k.made k c.loop-k.invariant (no_state lists place k list at past))
    ]

pub returns : goal.returns
returns c =
    let long = length-map c.args.lists.now (λ v. v.items) in
    leaf_all (as_lists c.args.lists.now) c.args.place c.loop-k.k c.loop-k.made (omega (arith, c.loop-k-test.false)) c.loop-k.invariant
