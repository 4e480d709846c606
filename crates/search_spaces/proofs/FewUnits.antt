-- An overlap of rules with few conditions has few items.
use Rattle.std.proofs.Common.{ℕ, ◌≡◌, ◌+◌, ◌-◌, ◌*◌, ◌≤◌, inl, inr, refl, List, [], ◌∷◌, map, flat_map, length, sym, ap, ◌∙◌, arith, mul-le-mul_left, mul-le-mul_right}
use Rattle.std.proofs.Common.{mul-add, suc-mul, zero-mul}
use Rattle.std.specs.List.{range_with_len}
use Rattle.std.proofs.lemmas.List.{length-append, length-map}
use Rattle.std.proofs.lemmas.List.FromFn.{length-map-range_with_len, length-range_with_len}
use Rattle.rewriting.specs.Prelude.{IsAmong, System, EachRule, compose, even, odd, conditions_under}
use Rattle.rewriting.proofs.Conditions.{length-conditions_under}
use Rattle.unifier_run.specs.Run.{value}
use Rattle.unifier_run.specs.Overlaps.{Overlap, IsOverlapOf}
use Rattle.certificates.specs.Evidence.{conflicting_pair}
use Rattle.valid_certificates.proofs.OneOverlaps.{overlaps_once}
use Rattle.first_found.specs.Items.{cost_of}
use Rattle.first_found.proofs.Items.{cost_of_ones}
use Rattle.search_spaces.specs.Refuting.{try_growth, growths}
use Rattle.search_spaces.specs.PairItems.{try_evidence, try_refuting, conflicts_with, conflicts, ortho_items_of, ortho_items}
use Rattle.search_spaces.specs.Entries.{overlap_cost}
use Rattle.search_spaces.specs.Laws.{OrthoSpacesCostFewUnits}

conflicts_length : (n : ℕ) (xs : List ℕ) → length (flat_map (conflicts_with n) xs) ≡ length xs * n
conflicts_length n [] = sym (zero-mul n)
conflicts_length n (a ∷ xs) =
    let row = length-map-range_with_len (λ b. try_evidence (conflicting_pair a b)) 1 n in
    let rest = conflicts_length n xs in
    let sum = length-append (conflicts_with n a) (flat_map (conflicts_with n) xs) in
    let more = suc-mul (length xs) n in omega (arith, row, rest, sum, more)

-- the product is greatest where both numbers are 20
products : (m n : ℕ) → m ≤ 20 → m + n ≤ 40 → m * n ≤ 400
products m n small few =
    let left = 20 - m in
    let most : n ≤ 20 + left = omega (arith, small, few) in
    let grown = mul-le-mul_left m most in
    let parts = mul-add m 20 left in
    let less = mul-le-mul_right left small in omega (arith, small, grown, parts, less)

items_length : (m n : ℕ) → m ≤ 20 → m + n ≤ 40 → length (ortho_items_of m n) ≤ 442
items_length m n small few =
    let pairs : length (conflicts m n) ≡ m * n = conflicts_length n (range_with_len 1 m) ∙ ap (λ k. k * n) (length-range_with_len 1 m) in
    let grown : length (map try_refuting (growths (m + n))) ≡ m + n = length-map (growths (m + n)) try_refuting ∙ length-map-range_with_len try_growth 1 (m + n) in
    let sum = length-append (conflicts m n) (map try_refuting (growths (m + n))) in
    let most = products m n small few in omega (arith, pairs, grown, sum, most, few)

module _ (sys : System) (short : EachRule sys (λ r. length r.conditions ≤ 20)) where
  overlap_costs_few : (o : Overlap) → IsOverlapOf sys o → overlap_cost ortho_items o ≤ 442
  overlap_costs_few o h =
      let inner = short o.inner h.inner h.place.is_inner in
      let outer = short o.outer h.outer h.place.is_outer in
      let first = length-conditions_under (compose even (value h.by)) h.inner.conditions in
      let second = length-conditions_under (compose odd (value h.by)) h.outer.conditions in
      let both = length-append (conditions_under (compose even (value h.by)) h.inner.conditions) (conditions_under (compose odd (value h.by)) h.outer.conditions) in
      let all = ap length h.pair.conditions in
      let counted = h.counted in
      let items = items_length o.inner_conditions (length o.pair.conditions - o.inner_conditions) (omega (arith, inner, counted)) (omega (arith, inner, outer, first, second, both, all, counted)) in
      let units = cost_of_ones (ortho_items o) in omega (arith, items, units)

  all_cost_few : (os : List Overlap) → ((o : Overlap) → IsAmong o os → IsOverlapOf sys o) → cost_of (overlap_cost ortho_items) os ≤ 442 * length os
  all_cost_few [] h = omega arith
  all_cost_few (o ∷ os) h =
      let first = overlap_costs_few o (h o (inl refl)) in
      let rest = all_cost_few os (λ p i. h p (inr i)) in omega (arith, first, rest)

pub ortho_costs_few : OrthoSpacesCostFewUnits
ortho_costs_few names sys os n are short (inl (qs, h, e)) =
    let most = all_cost_few sys short qs (λ o i. (h.overlaps.are.each o i).0) in
    let same = overlaps_once sys qs os h.overlaps are in
    let lengths = ap (λ (zs : List Overlap). length zs) same in omega (arith, most, e, lengths)
ortho_costs_few names sys os n are short (inr (none, e)) = omega (arith, e)
