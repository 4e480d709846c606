-- Spaces made from searchable spaces are searchable.
use Rattle.std.proofs.Common.{ℕ, ◌≡◌, ◌+◌, ◌≤◌, refl, sym, ap, ap₂, ◌∙◌, subst, arith}
use Rattle.rewriting.specs.Rules.{System}
use Rattle.certificates.specs.Certificates.{Certificate}
use Rattle.valid_certificates.specs.Certificates.{IsValid}
use Rattle.first_found.specs.Spaces.{Space, IsBarren, IsSearched, CostsOnce, FindsOnce, HasCost}
use Rattle.first_found.proofs.Spaces.{has_price}
use Rattle.search_spaces.specs.Laws.{IsSearchable}
use Rattle.proof_spaces.specs.Combined.{empty_space, only_found, space_of}

-- what is found costs no more than the whole
abbrev pub FindsWithin : {C : Type 0} → Space C → Type 0
FindsWithin {C} S = (c : C) (n m : ℕ) → S.Finds c n → S.Costs m → n ≤ m

-- x is come to once, and it cannot be that it is not
pub record IsOneOf {X : Type 0} (Is : X → ℕ → Type 0) : Type 0 where
  pub one : (x y : X) (a b : ℕ) → Is x a → Is y b → (x ≡ y) × (a ≡ b)
  pub not_none : ((x : X) (a : ℕ) → Is x a → ⊥) → ⊥

module _ (sys : System) where
  -- of a searchable space the price need not be shown
  priced : (S : Space Certificate) → IsSearched (IsValid sys) S → FindsOnce S → FindsWithin S → CostsOnce S → HasCost S → IsSearchable sys S
  priced S searched finds within costs there =
      record { searched = searched; finds_once = finds; finds_within = within; costs_once = costs; has_cost = there; has_price = has_price S costs there finds }

  pub empty_searchable : IsSearchable sys empty_space
  empty_searchable =
      priced empty_space (record { held = λ c n f. absurd f; barren = λ b c h good. h }) (λ c d n m f g. absurd f) (λ c n m f x. absurd f) (λ a b x y. x ∙ sym y) (λ none. none 0 refl)

  module _ (form : Certificate → Certificate) (InPlace : Certificate → Type 0) (last : System) (S : Space Certificate) (s : IsSearchable last S)
      (to : (c : Certificate) → IsValid last c → IsValid sys (form c)) where
    only_once : FindsOnce (only_found form InPlace S)
    only_once d e n m f k = let same = s.finds_once f.0 k.0 n m f.1 k.1 in (same.0, f.2 ∙ ap form same.1 ∙ sym k.2)

    pub only_searchable : IsSearchable sys (only_found form InPlace S)
    only_searchable =
        priced (only_found form InPlace S)
        (record {
          held = λ d n f. ((f.0, n, f.1, f.2, f.3), subst (IsValid sys) (sym f.2) (to f.0 (s.searched.held f.0 n f.1).1));
          barren = λ b d h good. b d h.1 (h.0, h.2, h.3, h.4);
        })
        only_once (λ d n m f x. s.finds_within f.0 n m f.1 x) s.costs_once s.has_cost

  module _ {X : Type 0} (Is : X → ℕ → Type 0) (S : X → Space Certificate) (one : IsOneOf Is) (each : (x : X) (a : ℕ) → Is x a → IsSearchable sys (S x)) where
    held_of : (d : Certificate) (n : ℕ) → (space_of Is S).Finds d n → (space_of Is S).Holds d × IsValid sys d
    held_of d n (x, a, b, i, f, e) = let h = (each x a i).searched.held d b f in ((x, a, i, h.0), h.1)

    barren_of : IsBarren (space_of Is S) → (d : Certificate) → (space_of Is S).Holds d → IsValid sys d → ⊥
    barren_of n d (x, a, i, k) good = (each x a i).searched.barren (λ c b f. n c (a + b) (x, a, b, i, f, refl)) d k good

    finds_of : FindsOnce (space_of Is S)
    finds_of c d n m (x, a, b, i, f, e) (y, k, l, j, g, h) =
        let same = one.one x y a k i j in
        let found = (each y k j).finds_once c d b l (subst (λ z. (S z).Finds c b) same.0 f) g in
        (e ∙ ap₂ (λ p q. p + q) same.1 found.0 ∙ sym h, found.1)

    within_of : FindsWithin (space_of Is S)
    within_of c n m (x, a, b, i, f, e) (y, k, l, j, w, h) =
        let same = one.one x y a k i j in
        let first = same.1 in
        let rest = (each y k j).finds_within c b l (subst (λ z. (S z).Finds c b) same.0 f) w in omega (arith, first, rest, e, h)

    costs_of : CostsOnce (space_of Is S)
    costs_of n m (x, a, b, i, f, e) (y, k, l, j, g, h) =
        let same = one.one x y a k i j in
        e ∙ ap₂ (λ p q. p + q) same.1 ((each y k j).costs_once b l (subst (λ z. (S z).Costs b) same.0 f) g) ∙ sym h

    pub space_searchable : IsSearchable sys (space_of Is S)
    space_searchable =
        priced (space_of Is S) (record { held = held_of; barren = barren_of }) finds_of within_of costs_of
        (λ none. one.not_none (λ x a i. (each x a i).has_cost (λ b c. none (a + b) (x, a, b, i, c, refl))))
