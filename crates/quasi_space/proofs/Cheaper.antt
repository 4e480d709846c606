-- A space in which the same is found as in another one, at no higher cost.
use Rattle.std.proofs.Common.{ℕ, ◌+◌, ◌<◌, ◌≤◌, inl, inr, refl, arith}
use Rattle.first_found.specs.Spaces.{Space, IsBarren, IsDearer, followed_by, Ending, found, nothing, spent}
use Rattle.quasi_space.specs.Endings.{MayEndLast}

-- what is found in the first is found in the second, at no lower cost; of what is found in the second, and of its whole cost, it cannot be that the first has none that is no higher
pub record IsCheaper {C : Type 0} (S T : Space C) : Type 0 where
  pub dearer_found : (c : C) (n : ℕ) → S.Finds c n → (k : ℕ) × T.Finds c k × (n ≤ k)
  pub cheaper_found : (c : C) (n : ℕ) → T.Finds c n → ((k : ℕ) → S.Finds c k → k ≤ n → ⊥) → ⊥
  pub cheaper_cost : (n : ℕ) → T.Costs n → ((k : ℕ) → S.Costs k → k ≤ n → ⊥) → ⊥

-- a search of the first is a search of the second
module _ {C : Type 0} (S T : Space C) (h : IsCheaper S T) where
  barren_back : IsBarren T → IsBarren S
  barren_back b c n f = let at = h.dearer_found c n f in b c at.0 at.1

  barren_there : IsBarren S → IsBarren T
  barren_there b c n f = h.cheaper_found c n f (λ k g less. b c k g)

  paid_within : (paid : ℕ) → ((k : ℕ) → S.Costs k → paid ≤ k) → (n : ℕ) → T.Costs n → paid ≤ n
  paid_within paid most n x =
      let not_more : n < paid → ⊥ = λ more. h.cheaper_cost n x (λ k y less. (let at = most k y in omega (arith, more, less, at))) in
      omega (arith, not_more)

  dearer_there : (left : ℕ) → IsDearer S left → IsDearer T left
  dearer_there left dear n (inl (c, f)) =
      let not_less : n ≤ left → ⊥ = λ most. h.cheaper_found c n f (λ k g less. (let at = dear k (inl (c, g)) in omega (arith, most, less, at))) in
      omega (arith, not_less)
  dearer_there left dear n (inr (b, x)) =
      let not_less : n ≤ left → ⊥ = λ most. h.cheaper_cost n x (λ k y less. (let at = dear k (inr (barren_back b, y)) in omega (arith, most, less, at))) in
      omega (arith, not_less)

  pub cheaper_search : (left paid : ℕ) (e : Ending C) → MayEndLast S left paid e → MayEndLast T left paid e
  cheaper_search left paid (found c) (n, f, most) = let at = h.dearer_found c n f in let less = at.2 in (at.0, at.1, omega (arith, most, less))
  cheaper_search left paid nothing (b, most) = (barren_there b, λ n x. paid_within paid most n x)
  cheaper_search left paid spent (e, dear) = (e, dearer_there left dear)

-- so it is behind one space
module _ {C : Type 0} (R S T : Space C) (h : IsCheaper S T) where
  found_there : (c : C) (n : ℕ) → (followed_by R S).Finds c n → (k : ℕ) × (followed_by R T).Finds c k × (n ≤ k)
  found_there c n (inl f) = (n, inl f, omega arith)
  found_there c n (inr (b, (i, j, x, f, e))) =
      let at = h.dearer_found c j f in let less = at.2 in (i + at.0, inr (b, (i, at.0, x, at.1, refl)), omega (arith, less, e))

  found_back : (c : C) (n : ℕ) → (followed_by R T).Finds c n → ((k : ℕ) → (followed_by R S).Finds c k → k ≤ n → ⊥) → ⊥
  found_back c n (inl f) none = none n (inl f) (omega arith)
  found_back c n (inr (b, (i, j, x, f, e))) none = h.cheaper_found c j f (λ k g less. none (i + k) (inr (b, (i, k, x, g, refl))) (omega (arith, less, e)))

  cost_back : (n : ℕ) → (followed_by R T).Costs n → ((k : ℕ) → (followed_by R S).Costs k → k ≤ n → ⊥) → ⊥
  cost_back n (i, j, x, y, e) none = h.cheaper_cost j y (λ k z less. none (i + k) (i, k, x, z, refl) (omega (arith, less, e)))

  pub cheaper_behind : IsCheaper (followed_by R S) (followed_by R T)
  cheaper_behind = record { dearer_found = found_there; cheaper_found = found_back; cheaper_cost = cost_back }
