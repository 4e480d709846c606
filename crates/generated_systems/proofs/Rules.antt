-- The rules of a generated system by their numbers: those for k, which counts from 0, are 4k + 1 to 4k + 4.
use Rattle.std.proofs.Common.{ℕ, zero, suc, ◌≡◌, ◌+◌, ◌*◌, ◌<◌, ◌≤◌, List, [], ◌∷◌, flat_map, Some, slice_get, refl, subst, subst₂, arith}
use Rattle.std.specs.List.{range_with_len}
use Rattle.rewriting.specs.Rules.{Rule, rule_at}
use Rattle.rewriting.proofs.Once.{same_some}
use Rattle.generated_systems.specs.Generated.{p_symbol, f_symbol, z, true as yes_term, false as no_term, s_of, p_of, f_of, x, next_of, rules_for, generated}

-- the four rules for k
abbrev pub zero_rule : ℕ → Rule
zero_rule k = record { left = p_of k z; right = yes_term; conditions = [] }

abbrev pub successor_rule : ℕ → Rule
successor_rule k = record { left = p_of k (s_of x); right = no_term; conditions = [] }

abbrev pub end_rule : ℕ → Rule
end_rule k = record { left = f_of k x; right = x; conditions = record { left = p_of k x; right = yes_term } ∷ [] }

abbrev pub next_rule : ℕ → Rule
next_rule k = record { left = f_of k x; right = next_of k; conditions = record { left = p_of k x; right = no_term } ∷ [] }

-- rule i is one of those for k
pub data IsRuleFor (k i : ℕ) (r : Rule) : Type 0 where
  is_zero : i ≡ 4 * k + 1 → zero_rule k ≡ r → IsRuleFor k i r
  is_successor : i ≡ 4 * k + 2 → successor_rule k ≡ r → IsRuleFor k i r
  is_end : i ≡ 4 * k + 3 → end_rule k ≡ r → IsRuleFor k i r
  is_next : i ≡ 4 * k + 4 → next_rule k ≡ r → IsRuleFor k i r

pub rule_low : (k i : ℕ) (r : Rule) → IsRuleFor k i r → 4 * k + 1 ≤ i
rule_low k i r (is_zero e h) = omega (arith, e)
rule_low k i r (is_successor e h) = omega (arith, e)
rule_low k i r (is_end e h) = omega (arith, e)
rule_low k i r (is_next e h) = omega (arith, e)

-- different symbols
pub same_p : (k l : ℕ) → p_symbol k ≡ p_symbol l → k ≡ l
same_p zero zero e = refl
same_p zero (suc l) e = absurd (omega (arith, e))
same_p (suc k) zero e = absurd (omega (arith, e))
same_p (suc k) (suc l) e = omega (arith, e)

pub p_or_f : (k l : ℕ) → p_symbol k ≡ f_symbol l → ⊥
p_or_f zero l e = omega (arith, e)
p_or_f (suc k) l e = omega (arith, e)

pub no_p : (k f : ℕ) → 0 < f → f < 5 → f ≡ p_symbol k → ⊥
no_p zero f low high e = omega (arith, low, e)
no_p (suc k) f low high e = omega (arith, high, e)

pub no_f : (k f : ℕ) → f < 5 → f ≡ f_symbol k → ⊥
no_f k f high e = omega (arith, high, e)

-- those for a, a + 1, .. in order
abbrev pub rules_from : ℕ → ℕ → List Rule
rules_from a n = flat_map rules_for (range_with_len a n)

-- for some k below a number
pub record IsNumbered (end i : ℕ) (r : Rule) : Type 0 where
  pub k : ℕ
  pub below : k < end
  pub is_rule : IsRuleFor k i r

numbered_from : (a n i : ℕ) (r : Rule) → slice_get (rules_from a n) i ≡ Some r → IsNumbered (a + n) (4 * a + suc i) r
numbered_from a zero i r e = cc
numbered_from a (suc n) zero r e = record { k = a; below = omega arith; is_rule = is_zero refl (same_some _ _ _ refl e) }
numbered_from a (suc n) (suc zero) r e = record { k = a; below = omega arith; is_rule = is_successor refl (same_some _ _ _ refl e) }
numbered_from a (suc n) (suc (suc zero)) r e = record { k = a; below = omega arith; is_rule = is_end refl (same_some _ _ _ refl e) }
numbered_from a (suc n) (suc (suc (suc zero))) r e = record { k = a; below = omega arith; is_rule = is_next refl (same_some _ _ _ refl e) }
numbered_from a (suc n) (suc (suc (suc (suc i)))) r e =
    let end : (a + 1) + n ≡ a + suc n = omega arith in
    let number : 4 * (a + 1) + suc i ≡ 4 * a + suc (suc (suc (suc (suc i)))) = omega arith in
    subst₂ (λ m j. IsNumbered m j r) end number (numbered_from (a + 1) n i r e)

pub numbered : (n i : ℕ) (r : Rule) → rule_at (generated n) i ≡ Some r → IsNumbered n i r
numbered n zero r e = cc
numbered n (suc i) r e =
    let end : 0 + n ≡ n = omega arith in
    let number : 4 * 0 + suc i ≡ suc i = omega arith in
    subst₂ (λ m j. IsNumbered m j r) end number (numbered_from 0 n i r e)

placed_from : (a n k b j : ℕ) (r : Rule) → b ≡ a + k → k < n → j < 4 → slice_get (rules_for b) j ≡ Some r → slice_get (rules_from a n) (4 * k + j) ≡ Some r
placed_from a zero k b j r e l m h = absurd (omega (arith, l))
placed_from a (suc n) (suc k) b j r e l m h =
    let number : suc (suc (suc (suc (4 * k + j)))) ≡ 4 * suc k + j = omega arith in
    subst (λ i. slice_get (rules_from a (suc n)) i ≡ Some r) number (placed_from (a + 1) n k b j r (omega (arith, e)) (omega (arith, l)) m h)
placed_from a (suc n) zero b j r e l m h =
    subst (λ i. slice_get (rules_from a (suc n)) i ≡ Some r) number (go j m (subst (λ q. slice_get (rules_for q) j ≡ Some r) same h))
  where
    number : j ≡ 4 * zero + j
    number = omega arith

    same : b ≡ a
    same = omega (arith, e)

    go : (j : ℕ) → j < 4 → slice_get (rules_for a) j ≡ Some r → slice_get (rules_from a (suc n)) j ≡ Some r
    go zero m h = h
    go (suc zero) m h = h
    go (suc (suc zero)) m h = h
    go (suc (suc (suc zero))) m h = h
    go (suc (suc (suc (suc i)))) m h = absurd (omega (arith, m))

-- the rule at a place among those for k
placed : (n k j : ℕ) (r : Rule) → k < n → j < 4 → slice_get (rules_for k) j ≡ Some r → rule_at (generated n) (4 * k + suc j) ≡ Some r
placed n k j r l m h =
    let number : suc (4 * k + j) ≡ 4 * k + suc j = omega arith in
    subst (λ i. rule_at (generated n) i ≡ Some r) number (placed_from 0 n k k j r (omega arith) l m h)

module _ (n k : ℕ) (l : k < n) where
  pub zero_at : rule_at (generated n) (4 * k + 1) ≡ Some (zero_rule k)
  zero_at = placed n k 0 (zero_rule k) l (omega arith) refl

  pub end_at : rule_at (generated n) (4 * k + 3) ≡ Some (end_rule k)
  end_at = placed n k 2 (end_rule k) l (omega arith) refl

  pub next_at : rule_at (generated n) (4 * k + 4) ≡ Some (next_rule k)
  next_at = placed n k 3 (next_rule k) l (omega arith) refl
