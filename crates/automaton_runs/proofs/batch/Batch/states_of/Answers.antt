use Rattle.std.proofs.Common.{◌≡◌, ◌↔◌, ◌+◌, ◌-◌, ◌<◌, ◌≤◌, ◌∙◌, ℕ, [], Some, length, get_or, slice_get, refl, ap, sym, subst, length-append, arith}
use Rattle.std.proofs.lemmas.Bool.{eqb-true}
use Rattle.std.proofs.lemmas.List.{nil_from_length}
use Rattle.std.proofs.lemmas.Option.{same_Some, slice_get_read, slice_get-get_or}
use Rattle.automata.specs.Closed.{state_of}
use Rattle.number_sets.specs.Relation.{Relates}
use Rattle.automaton_runs.specs.Choices.{Batch, Holds, choice_of}
use Rattle.automaton_runs.specs.BatchView.{AreStatesAt}
use Rattle.automaton_runs.proofs.BatchParts.{states_behind, states_found, states_absent, states_alone}
use Rattle.rewriting.proofs.Members.{place_among}
use Rattle.automaton_runs.proofs.batch.Batch.states_of.Goals as goal

pub returns-then-has_only_zeros : goal.returns-then-has_only_zeros
returns-then-has_only_zeros c =
    let names = c.args.names.now in
    let x = c.args.x in
    let r = c.zeros.result.now in
    let view : Batch = record { front = c.self.inside.front.now; width = c.self.inside.tails.now.width; tails = c.self.inside.tails.now.lists } in
    let front : c.self.inside.front.now ≡ [] = nil_from_length c.self.inside.front.now (eqb-true (length c.self.inside.front.now) 0 (sym c.is_empty.ensures ∙ c.if-is_empty.true)) in
    subst (λ (b : Batch). (q k : ℕ) → Relates r q k ↔ (Holds b k × (q ≡ state_of names (choice_of b k) x))) c.self.view_is
    (states_alone view names x r front (c.has_only_zeros.ensures c.if-has_only_zeros.true) c.zeros.ensures)

pub returns-in-Some : goal.returns-in-Some
returns-in-Some c =
    let b = c.args.self.now in
    let place = c.in-Some.place in
    let r = c.index.result.now in
    let inside : c.in-Some.place < length c.self.inside.leaves.items = omega (arith, c.if-place-len.true) in
    let at : slice_get c.self.inside.leaves.items c.in-Some.place ≡ Some c.index.result.now = slice_get_read c.self.inside.leaves.items (length c.self.inside.leaves.items)
    c.in-Some.place c.index.result.now refl inside c.index.ensures in
    let states : AreStatesAt c.args.self.now c.in-Some.place c.index.result.now = subst (λ (b : Batch). AreStatesAt b c.in-Some.place c.index.result.now) c.self.view_is
    (c.self.invariant.leaves c.in-Some.place c.index.result.now at) in
    let front : length c.self.inside.front.now ≡ length c.args.self.now.front = ap (λ (b : Batch). length b.front) c.self.view_is in
    let places = c.self.invariant.places in
    states_found c.args.self.now c.args.names.now c.args.x c.in-Some.place c.index.result.now c.in-Some.ensures
    (λ k holds. omega (arith, length-append c.args.self.now.front (get_or c.args.self.now.tails k []))) states

pub returns-in-Some-2 : goal.returns-in-Some-2
returns-in-Some-2 c =
    let names = c.args.names.now in
    let x = c.args.x in
    let r = c.leaf.result.now in
    let front = c.self.inside.front.now in
    let tails = c.self.inside.tails.now.lists in
    let view : Batch = record { front = c.self.inside.front.now; width = c.self.inside.tails.now.width; tails = c.self.inside.tails.now.lists } in
    let same : c.in-Some.place ≡ c.in-Some-2.place = same_Some c.in-Some.place c.in-Some-2.place (sym c.in-Some.is ∙ c.in-Some-2.is) in
    let count : c.len-in-Some-2.result ≡ length c.self.inside.front.now = c.len-in-Some-2.ensures ∙ c.self.inside.leaves.ok.0 ∙ c.self.invariant.places in
    let past : length c.self.inside.front.now ≤ c.in-Some.place = omega (arith, c.if-place-len.false, c.len.ensures ∙ sym c.len-in-Some-2.ensures) in
    let place : length c.self.inside.front.now + (c.in-Some.place - c.len-in-Some-2.result) ≡ c.in-Some-2.place = omega arith in
    let states : AreStatesAt view c.in-Some-2.place r = subst (λ (i : ℕ). AreStatesAt view i r) place (states_behind view (c.in-Some.place - c.len-in-Some-2.result) r c.leaf.ensures.states) in
    let within : (k : ℕ) → Holds view k → c.in-Some-2.place < length (choice_of view k) =
    λ k holds.
    let tail = get_or c.self.inside.tails.now.lists k [] in
    let low = c.leaf.ensures.within (get_or c.self.inside.tails.now.lists k []) (place_among c.self.inside.tails.now.lists k (get_or c.self.inside.tails.now.lists k [])
    (slice_get-get_or c.self.inside.tails.now.lists k [] holds)) in
    omega (arith, length-append c.self.inside.front.now (get_or c.self.inside.tails.now.lists k [])) in
    subst (λ (b : Batch). (q k : ℕ) → Relates r q k ↔ (Holds b k × (q ≡ state_of names (choice_of b k) x))) c.self.view_is
    (states_found view names x c.in-Some-2.place r c.in-Some-2.ensures within states)

pub returns-in-None : goal.returns-in-None
returns-in-None c =
    states_absent c.args.self.now c.args.names.now c.args.x c.zeros-in-None.result.now c.in-None.ensures
    (λ q k. subst (λ (n : ℕ). Relates c.zeros-in-None.result.now q k ↔ ((k < n) × (q ≡ 0))) (ap (λ (b : Batch). length b.tails) c.self.view_is) (c.zeros-in-None.ensures q k))
