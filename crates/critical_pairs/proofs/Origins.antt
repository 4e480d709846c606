-- The numbers of rules that an earlier system has too.
use Rattle.std.proofs.Common.{ℕ, zero, suc, ◌≡◌, ◌<◌, ◌≤◌, ◌⊎◌, inl, inr, List, [], ◌∷◌, length, get_or, slice_get, Option, Some, None, refl, sym, ap, ◌∙◌, subst, arith}
use Rattle.std.proofs.lemmas.Option.{slice_get_within}
use Rattle.rewriting.specs.Rules.{Rule, System, rule_at}
use Rattle.critical_pairs.specs.Kept.{number_at, AreOriginsFrom, AreOrigins}

above : (n : ℕ) (e : System) (os : List (Option ℕ)) (rs : List Rule) (k m : ℕ) → AreOriginsFrom n e os rs → get_or os k None ≡ Some m → n < m
above n e [] [] k m h g = absurd (cc)
above n e [] (r ∷ rs) k m h g = absurd h
above n e (o ∷ os) [] k m h g = absurd h
above n e (None ∷ os) (r ∷ rs) zero m h g = absurd (cc)
above n e (None ∷ os) (r ∷ rs) (suc k) m h g = above n e os rs k m h g
above n e (Some l ∷ os) (r ∷ rs) zero m (a, s, h) g = let same : l ≡ m = cc in omega (arith, a, same)
above n e (Some l ∷ os) (r ∷ rs) (suc k) m (a, s, h) g = let b = above l e os rs k m h g in omega (arith, a, b)

same_rule : (n : ℕ) (e : System) (os : List (Option ℕ)) (rs : List Rule) (k m : ℕ) → AreOriginsFrom n e os rs → get_or os k None ≡ Some m
    → (r : Rule) × (rule_at e m ≡ Some r) × (slice_get rs k ≡ Some r)
same_rule n e [] [] k m h g = absurd (cc)
same_rule n e [] (r ∷ rs) k m h g = absurd h
same_rule n e (o ∷ os) [] k m h g = absurd h
same_rule n e (None ∷ os) (r ∷ rs) zero m h g = absurd (cc)
same_rule n e (None ∷ os) (r ∷ rs) (suc k) m h g = same_rule n e os rs k m h g
same_rule n e (Some l ∷ os) (r ∷ rs) zero m (a, s, h) g = (let same : l ≡ m = cc in (r, subst (λ z. rule_at e z ≡ Some r) same s, refl))
same_rule n e (Some l ∷ os) (r ∷ rs) (suc k) m (a, s, h) g = same_rule l e os rs k m h g

go_up : (n : ℕ) (e : System) (os : List (Option ℕ)) (rs : List Rule) (k l a b : ℕ) → AreOriginsFrom n e os rs → k < l → get_or os k None ≡ Some a → get_or os l None ≡ Some b → a < b
go_up n e [] [] k l a b h less g f = absurd (cc)
go_up n e [] (r ∷ rs) k l a b h less g f = absurd h
go_up n e (o ∷ os) [] k l a b h less g f = absurd h
go_up n e (None ∷ os) (r ∷ rs) zero l a b h less g f = absurd (cc)
go_up n e (None ∷ os) (r ∷ rs) (suc k) zero a b h less g f = absurd (omega (arith, less))
go_up n e (None ∷ os) (r ∷ rs) (suc k) (suc l) a b h less g f = go_up n e os rs k l a b h (omega (arith, less)) g f
go_up n e (Some c ∷ os) (r ∷ rs) zero zero a b h less g f = absurd (omega (arith, less))
go_up n e (Some c ∷ os) (r ∷ rs) zero (suc l) a b (p, s, h) less g f = (let same : c ≡ a = cc in let q = above c e os rs l b h f in omega (arith, q, same))
go_up n e (Some c ∷ os) (r ∷ rs) (suc k) zero a b h less g f = absurd (omega (arith, less))
go_up n e (Some c ∷ os) (r ∷ rs) (suc k) (suc l) a b (p, s, h) less g f = go_up c e os rs k l a b h (omega (arith, less)) g f

pub as_long : (n : ℕ) (e : System) (os : List (Option ℕ)) (rs : List Rule) → AreOriginsFrom n e os rs → length os ≡ length rs
as_long n e [] [] h = refl
as_long n e [] (r ∷ rs) h = absurd h
as_long n e (o ∷ os) [] h = absurd h
as_long n e (None ∷ os) (r ∷ rs) h = ap suc (as_long n e os rs h)
as_long n e (Some m ∷ os) (r ∷ rs) (a, s, h) = ap suc (as_long m e os rs h)

pub in_order : (i j : ℕ) → (i < j) ⊎ ((i ≡ j) ⊎ (j < i))
in_order i j = search arith

module _ (e sys : System) (os : List (Option ℕ)) (are : AreOrigins e sys os) where
  pub length_same : length os ≡ length sys.rules
  length_same = as_long 0 e os sys.rules are

  pub rule_same : (i m : ℕ) → number_at os i ≡ Some m → rule_at sys i ≡ rule_at e m
  rule_same zero m g = absurd (cc)
  rule_same (suc i) m g = let r = same_rule 0 e os sys.rules i m are g in r.2 ∙ sym r.1

  pub rule_inside : (i m : ℕ) → number_at os i ≡ Some m → (0 < m) × (m ≤ length e.rules)
  rule_inside zero m g = absurd (cc)
  rule_inside (suc i) zero g = (let low = above 0 e os sys.rules i 0 are g in absurd (omega (arith, low)))
  rule_inside (suc i) (suc m) g = (let r = same_rule 0 e os sys.rules i (suc m) are g in let h = slice_get_within e.rules m r.0 r.1 in (omega arith, omega (arith, h)))

  pub numbers_up : (i j a b : ℕ) → i < j → number_at os i ≡ Some a → number_at os j ≡ Some b → a < b
  numbers_up zero j a b less g f = absurd (cc)
  numbers_up (suc i) zero a b less g f = absurd (omega (arith, less))
  numbers_up (suc i) (suc j) a b less g f = go_up 0 e os sys.rules i j a b are (omega (arith, less)) g f

  pub one_number : (i j a b : ℕ) → a ≡ b → number_at os i ≡ Some a → number_at os j ≡ Some b → i ≡ j
  one_number i j a b same g f = go (in_order i j)
    where
      go : (i < j) ⊎ ((i ≡ j) ⊎ (j < i)) → i ≡ j
      go (inl h) = let less = numbers_up i j a b h g f in absurd (omega (arith, less, same))
      go (inr (inl h)) = h
      go (inr (inr h)) = let less = numbers_up j i b a h f g in absurd (omega (arith, less, same))

  pub lower_now : (i j a b : ℕ) → a < b → number_at os i ≡ Some a → number_at os j ≡ Some b → i < j
  lower_now i j a b less g f = go (in_order i j)
    where
      go : (i < j) ⊎ ((i ≡ j) ⊎ (j < i)) → i < j
      go (inl h) = h
      go (inr (inl h)) = (let two : Some a ≡ Some b = sym g ∙ (ap (number_at os) h ∙ f) in let same : a ≡ b = cc in absurd (omega (arith, less, same)))
      go (inr (inr h)) = let more = numbers_up j i b a h f g in absurd (omega (arith, less, more))
