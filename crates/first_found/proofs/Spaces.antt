-- Searches of two spaces, one after the other.
use Rattle.std.proofs.Common.{ℕ, ◌≡◌, ◌+◌, ◌≤◌, ◌⊎◌, inl, inr, refl, arith}
use Rattle.first_found.specs.Spaces.{Space, IsBarren, IsPrice, IsDearer, followed_by, Ending, found, nothing, spent, MayEnd, MayEndExactly, CostsOnce, IsSearched, HasCost, FindsOnce, HasPrice}

module _ {C : Type 0} where
  -- a search that pays exactly pays no more than it has to
  pub ends_so : (S : Space C) (left paid : ℕ) (e : Ending C) → MayEndExactly S left paid e → MayEnd S left paid e
  ends_so S left paid (found c) h = (paid, h, omega arith)
  ends_so S left paid nothing h = h
  ends_so S left paid spent h = h

  module _ (S T : Space C) where
    pub barren_first : IsBarren (followed_by S T) → IsBarren S
    barren_first h c n f = h c n (inl f)

    pub barren_both : IsBarren S → IsBarren T → IsBarren (followed_by S T)
    barren_both h k c n (inl f) = h c n f
    barren_both h k c n (inr (b, (i, j, x, f, e))) = k c j f

    -- what was found, or not paid, in the first ends the search of both
    pub first_found : (left paid : ℕ) (c : C) → MayEnd S left paid (found c) → MayEnd (followed_by S T) left paid (found c)
    first_found left paid c (n, f, e) = (n, inl f, e)

    price_first : (left : ℕ) → IsDearer S left → IsDearer (followed_by S T) left
    price_first left h n (inl (c, inl f)) = h n (inl (c, f))
    price_first left h n (inl (c, inr (b, (i, j, x, f, e)))) = let less = h i (inr (b, x)) in omega (arith, less, e)
    price_first left h n (inr (b, (i, j, x, y, e))) = let less = h i (inr (barren_first b, x)) in omega (arith, less, e)

    pub first_spent : (left paid : ℕ) → MayEnd S left paid spent → MayEnd (followed_by S T) left paid spent
    first_spent left paid (e, h) = (e, price_first left h)

    -- where there is nothing in the first, the search goes on in the second with what is left
    module _ (once : CostsOnce S) (left paid : ℕ) (none : MayEnd S left paid nothing) (enough : paid ≤ left) where
      price_second : (rest : ℕ) → left ≡ paid + rest → IsDearer T rest → IsDearer (followed_by S T) left
      price_second rest l h n (inl (c, inl f)) = absurd (none.0 c n f)
      price_second rest l h n (inl (c, inr (b, (i, j, x, f, e)))) =
          let less = h j (inl (c, f)) in
          let same = once none.1.0 i none.1.1 x in
          let most = none.1.2 in omega (arith, l, less, same, most, e)
      price_second rest l h n (inr (b, (i, j, x, y, e))) =
          let barren : IsBarren T = λ c k f. b c (i + k) (inr (none.0, (i, k, x, f, refl))) in
          let less = h j (inr (barren, y)) in
          let same = once none.1.0 i none.1.1 x in
          let most = none.1.2 in omega (arith, l, less, same, most, e)

      pub second_ends : (rest more : ℕ) (e : Ending C) → left ≡ paid + rest → MayEnd T rest more e → MayEnd (followed_by S T) left (paid + more) e
      second_ends rest more (found c) l (n, f, e) =
          let most = none.1.2 in (none.1.0 + n, inr (none.0, (none.1.0, n, none.1.1, f, refl)), omega (arith, e, most))
      second_ends rest more nothing l (b, (n, x, e)) =
          let most = none.1.2 in (barren_both none.0 b, (none.1.0 + n, (none.1.0, n, none.1.1, x, refl), omega (arith, e, most)))
      second_ends rest more spent l (e, h) = (omega (arith, l, e), price_second rest l h)

    -- what is found in two spaces that find once is found once
    pub both_find_once : CostsOnce S → FindsOnce S → FindsOnce T → FindsOnce (followed_by S T)
    both_find_once once one two c d n m (inl f) (inl g) = one c d n m f g
    both_find_once once one two c d n m (inl f) (inr (b, y)) = absurd (b c n f)
    both_find_once once one two c d n m (inr (b, x)) (inl g) = absurd (b d m g)
    both_find_once once one two c d n m (inr (b, (i, j, x, f, e))) (inr (w, (k, l, y, g, h))) =
        let first = once i k x y in let second = two c d j l f g in let units = second.0 in (omega (arith, first, units, e, h), second.1)

    -- both are searched for what is good
    module _ (Good : C → Type 0) (s : IsSearched Good S) (t : IsSearched Good T) (there : HasCost S) where
      both_held : (c : C) (n : ℕ) → (followed_by S T).Finds c n → (S.Holds c ⊎ T.Holds c) × Good c
      both_held c n (inl f) = let h = s.held c n f in (inl h.0, h.1)
      both_held c n (inr (b, (i, j, x, f, e))) = let h = t.held c j f in (inr h.0, h.1)

      second_barren : IsBarren (followed_by S T) → IsBarren T
      second_barren h c n f = there (λ i x. h c (i + n) (inr (barren_first h, (i, n, x, f, refl))))

      both_barren : IsBarren (followed_by S T) → (c : C) → S.Holds c ⊎ T.Holds c → Good c → ⊥
      both_barren h c (inl k) good = s.barren (barren_first h) c k good
      both_barren h c (inr k) good = t.barren (second_barren h) c k good

      pub both_searched : IsSearched Good (followed_by S T)
      both_searched = record { held = both_held; barren = both_barren }

    pub both_cost : HasCost S → HasCost T → HasCost (followed_by S T)
    both_cost h k none = h (λ i x. k (λ j y. none (i + j) (i, j, x, y, refl)))

    pub both_once : CostsOnce S → CostsOnce T → CostsOnce (followed_by S T)
    both_once h k a b (i, j, x, y, d) (p, q, z, w, e) = let one = h i p x z in let two = k j q y w in omega (arith, d, e, one, two)

  -- it cannot be that there is no price
  pub price_there : (S : Space C) → HasCost S → ((n : ℕ) → IsPrice S n → ⊥) → ⊥
  price_there S there none = there (λ n x. none n (inr ((λ c m f. none m (inl (c, f))), x)))

  -- there is one price at most
  pub price_once : (S : Space C) → CostsOnce S → ((c d : C) (n m : ℕ) → S.Finds c n → S.Finds d m → n ≡ m) → (n m : ℕ) → IsPrice S n → IsPrice S m → n ≡ m
  price_once S costs finds n m (inl (c, f)) (inl (d, g)) = finds c d n m f g
  price_once S costs finds n m (inl (c, f)) (inr (b, x)) = absurd (b c n f)
  price_once S costs finds n m (inr (b, x)) (inl (d, g)) = absurd (b d m g)
  price_once S costs finds n m (inr (b, x)) (inr (k, y)) = costs n m x y

  pub has_price : (S : Space C) → CostsOnce S → HasCost S → FindsOnce S → HasPrice S
  has_price S costs there finds =
      record { one_at_most = price_once S costs (λ c d n m f g. (finds c d n m f g).0); not_none = price_there S there }
