-- What searches of the parts say of a space that is made of them.
use Rattle.std.proofs.Common.{ℕ, ◌≡◌, ◌+◌, ◌≤◌, ◌<◌, inl, inr, refl, ap, ◌∙◌, subst, arith}
use Rattle.first_found.specs.Spaces.{Space, IsBarren, IsDearer, Ending, found, nothing, spent, MayEnd, FindsOnce, followed_by}
use Rattle.quasi_space.specs.Endings.{MayEndLast}
use Rattle.proof_spaces.specs.Combined.{only_found, space_of}
use Rattle.proof_spaces.proofs.Combined.{FindsWithin, IsOneOf}

-- what is dearer than there is, is whole dearer, too
pub beyond_of_dearer : {C : Type 0} (S : Space C) → FindsWithin S → (left : ℕ) → IsDearer S left → (n : ℕ) → S.Costs n → left < n
beyond_of_dearer S within left dear n x =
    let not_less : n ≤ left → ⊥ = λ most.
    (let bare : IsBarren S = λ c k f. (let less = dear k (inl (c, f)) in let low = within c k n f x in omega (arith, less, low, most)) in
    let less = dear n (inr (bare, x)) in omega (arith, less, most)) in
    omega (arith, not_less)

-- a search of the last space, where the cost is known, is a search
pub known_cost : {C : Type 0} (S : Space C) (cost : ℕ) → S.Costs cost → (left paid : ℕ) (e : Ending C) → MayEndLast S left paid e → MayEnd S left paid e
known_cost S cost x left paid (found c) h = h
known_cost S cost x left paid nothing (b, most) = (b, (cost, x, most cost x))
known_cost S cost x left paid spent h = h

-- where the first space holds nothing, and no more was paid than it costs, the rest is too little for the second
pub dearer_second : {C : Type 0} (S T : Space C) (left paid rest : ℕ) → MayEndLast S left paid nothing → left ≡ paid + rest → IsDearer T rest → IsDearer (followed_by S T) left
dearer_second S T left paid rest (bare, most) l dear n (inl (c, inl f)) = absurd (bare c n f)
dearer_second S T left paid rest (bare, most) l dear n (inl (c, inr (b, (i, j, x, f, e)))) =
    let low = most i x in let less = dear j (inl (c, f)) in omega (arith, l, low, less, e)
dearer_second S T left paid rest (bare, most) l dear n (inr (b, (i, j, x, y, e))) =
    let low = most i x in
    let none : IsBarren T = λ c k f. b c (i + k) (inr (bare, (i, k, x, f, refl))) in
    let less = dear j (inr (none, y)) in omega (arith, l, low, less, e)

-- in another form, where that is in place
module _ {C D : Type 0} (form : C → D) (InPlace : D → Type 0) (S : Space C) where
  pub kept_found : (left paid : ℕ) (c : C) → InPlace (form c) → MayEnd S left paid (found c) → MayEnd (only_found form InPlace S) left paid (found (form c))
  kept_found left paid c place (n, f, most) = (n, (c, f, refl, place), most)

  pub nothing_kept : (left paid : ℕ) → MayEnd S left paid nothing → MayEnd (only_found form InPlace S) left paid nothing
  nothing_kept left paid (b, h) = ((λ d m g. b g.0 m g.1), h)

  pub last_nothing_kept : (left paid : ℕ) → MayEndLast S left paid nothing → MayEndLast (only_found form InPlace S) left paid nothing
  last_nothing_kept left paid (b, most) = ((λ d m g. b g.0 m g.1), most)

  module _ (within : FindsWithin S) where
    pub spent_kept : (left paid : ℕ) → MayEnd S left paid spent → MayEnd (only_found form InPlace S) left paid spent
    spent_kept left paid (e, dear) = (e, dearer)
      where
        dearer : IsDearer (only_found form InPlace S) left
        dearer n (inl (d, (c, f, e, w))) = dear n (inl (c, f))
        dearer n (inr (b, x)) = beyond_of_dearer S within left dear n x

    -- what is found is not in place: nothing is
    module _ (once : FindsOnce S) (left paid : ℕ) (c : C) (out : InPlace (form c) → ⊥) (h : MayEnd S left paid (found c)) where
      none_in_place : IsBarren (only_found form InPlace S)
      none_in_place d m g = out (subst InPlace (g.2 ∙ ap form (once g.0 c m h.0 g.1 h.1).1) g.3)

      paid_within : (n : ℕ) → S.Costs n → paid ≤ n
      paid_within n x = let low = within c h.0 n h.1 x in let most = h.2 in omega (arith, most, low)

      pub lost_found : (cost : ℕ) → S.Costs cost → MayEnd (only_found form InPlace S) left paid nothing
      lost_found cost x = (none_in_place, (cost, x, paid_within cost x))

      pub last_lost : MayEndLast (only_found form InPlace S) left paid nothing
      last_lost = (none_in_place, paid_within)

-- x is come to, and then its space is searched
module _ {X D : Type 0} (Is : X → ℕ → Type 0) (S : X → Space D) where
  pub dearer_before : (left : ℕ) → ((x : X) (a : ℕ) → Is x a → left < a) → IsDearer (space_of Is S) left
  dearer_before left less n (inl (d, (x, a, b, i, f, e))) = let low = less x a i in omega (arith, low, e)
  dearer_before left less n (inr (bare, (x, a, b, i, c, e))) = let low = less x a i in omega (arith, low, e)

  module _ (one : IsOneOf Is) (x : X) (a : ℕ) (is : Is x a) (left paid : ℕ) (low : paid ≤ a) where
    pub dearer_behind : (rest : ℕ) → left ≡ paid + rest → IsDearer (S x) rest → IsDearer (space_of Is S) left
    dearer_behind rest l dear n (inl (d, (y, b, k, i, f, e))) =
        let same = one.one y x b a i is in
        let cost = same.1 in
        let less = dear k (inl (d, subst (λ z. (S z).Finds d k) same.0 f)) in omega (arith, low, l, less, cost, e)
    dearer_behind rest l dear n (inr (bare, (y, b, k, i, c, e))) =
        let same = one.one y x b a i is in
        let cost = same.1 in
        let here : IsBarren (S x) = λ d m f. bare d (a + m) (x, a, m, is, f, refl) in
        let less = dear k (inr (here, subst (λ z. (S z).Costs k) same.0 c)) in omega (arith, low, l, less, cost, e)

    pub found_behind : (more : ℕ) (d : D) → MayEnd (S x) left more (found d) → MayEnd (space_of Is S) left (paid + more) (found d)
    found_behind more d (n, f, most) = (a + n, (x, a, n, is, f, refl), omega (arith, low, most))

    pub nothing_behind : (more : ℕ) → MayEnd (S x) left more nothing → MayEnd (space_of Is S) left (paid + more) nothing
    nothing_behind more (b, (n, c, most)) = (nowhere, (a + n, (x, a, n, is, c, refl), omega (arith, low, most)))
      where
        nowhere : IsBarren (space_of Is S)
        nowhere d m (y, k, j, i, f, e) = b d j (subst (λ z. (S z).Finds d j) (one.one y x k a i is).0 f)
