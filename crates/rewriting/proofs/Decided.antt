-- Decided facts, and whether a term has a part of some kind.
use Rattle.std.proofs.Common.{◌≡◌, ℕ, zero, suc, ◌<◌, ◌≤◌, ◌⊎◌, inl, inr, refl, subst, [], ◌∷◌, Some, Bool, true, false, arith}
use Rattle.general_lemmas.proofs.Numbers.{le_or_lt}
use Rattle.rewriting.proofs.Common.{Term, var, app, Terms, nil, cons, Position, argument, argument_of, subterm}
use Rattle.rewriting.proofs.Positions.{none_at_zero, within}

-- a fact, or its contrary
abbrev pub IsDecided : Type 0 → Type 0
IsDecided P = P ⊎ (P → ⊥)

pub at_most : (a b : ℕ) → IsDecided (a ≤ b)
at_most a b = go (le_or_lt a b)
  where
    go : (a ≤ b) ⊎ (b < a) → IsDecided (a ≤ b)
    go (inl le) = inl le
    go (inr lt) = inr (λ le. omega (arith, lt, le))

pub is_true : (b : Bool) → IsDecided (b ≡ true)
is_true true = inl refl
is_true false = inr (λ e. cc)

-- a fact that says the same; both of two, one of them, and what the first asks of the second
pub as_other : {A B : Type 0} → (A → B) → (B → A) → IsDecided A → IsDecided B
as_other into back (inl a) = inl (into a)
as_other into back (inr k) = inr (λ b. k (back b))

pub both : {A B P : Type 0} → (A → B → P) → (P → A) → (P → B) → IsDecided A → IsDecided B → IsDecided P
both into left right (inl a) (inl b) = inl (into a b)
both into left right (inl a) (inr k) = inr (λ p. k (right p))
both into left right (inr k) b = inr (λ p. k (left p))

pub either : {A B : Type 0} → IsDecided A → IsDecided B → IsDecided (A ⊎ B)
either (inl a) b = inl (inl a)
either (inr k) (inl b) = inl (inr b)
either {A = A} {B = B} (inr k) (inr n) = inr neither
  where
    neither : A ⊎ B → ⊥
    neither (inl a) = k a
    neither (inr b) = n b

pub asked : {A B : Type 0} → IsDecided A → IsDecided B → IsDecided (A → B)
asked (inl a) (inl b) = inl (λ _. b)
asked (inl a) (inr k) = inr (λ f. k (f a))
asked (inr k) b = inl (λ a. absurd (k a))

-- a part of a term that has a property
abbrev pub HasPart : (Term → Type 0) → Term → Type 0
HasPart P t = (p : Position) × (u : Term) × (subterm t p ≡ Some u) × P u

module _ (P : Term → Type 0) (test : (t : Term) → IsDecided (P t)) where
  abbrev HasArgument : Terms → Type 0
  HasArgument ts = (k : ℕ) × (t : Term) × (argument ts k ≡ Some t) × HasPart P t

  part_cases : (t : Term) → HasPart P t → P t ⊎ ((k : ℕ) × (u : Term) × (argument_of t k ≡ Some u) × HasPart P u)
  part_cases t ([], u, e, h) = inl (let same : u ≡ t = cc in subst P same h)
  part_cases t (k ∷ p, u, e, h) = (let w = within t k p u e in inr (k, w.part, w.here, (p, u, w.inside, h)))

  part_here : (t : Term) → P t ⊎ ((k : ℕ) × (u : Term) × (argument_of t k ≡ Some u) × HasPart P u) → HasPart P t
  part_here t (inl h) = ([], t, refl, h)
  part_here t (inr (k, u, at, (p, v, e, h))) = (k ∷ p, v, rw at e, h)

  no_argument : HasArgument nil → ⊥
  no_argument (k, t, at, h) = cc

  argument_cases : (t : Term) (ts : Terms) → HasArgument (cons t ts) → HasPart P t ⊎ HasArgument ts
  argument_cases t ts (zero, u, at, h) = absurd (cc)
  argument_cases t ts (suc zero, u, at, h) = inl (let same : u ≡ t = cc in subst (HasPart P) same h)
  argument_cases t ts (suc (suc k), u, at, h) = inr (suc k, u, at, h)

  argument_here : (t : Term) (ts : Terms) → HasPart P t ⊎ HasArgument ts → HasArgument (cons t ts)
  argument_here t ts (inl h) = (1, t, refl, h)
  argument_here t ts (inr (zero, u, at, h)) = absurd (none_at_zero ts u at)
  argument_here t ts (inr (suc k, u, at, h)) = (suc (suc k), u, at, h)

  mutual
    pub has_part : (t : Term) → IsDecided (HasPart P t)
    has_part (var x) = as_other (part_here (var x)) (part_cases (var x)) (either (test (var x)) (inr (λ h. let at = h.2 in cc)))
    has_part (app f ts) = as_other (part_here (app f ts)) (part_cases (app f ts)) (either (test (app f ts)) (has_argument ts))

    has_argument : (ts : Terms) → IsDecided (HasArgument ts)
    has_argument nil = inr no_argument
    has_argument (cons t ts) = as_other (argument_here t ts) (argument_cases t ts) (either (has_part t) (has_argument ts))
