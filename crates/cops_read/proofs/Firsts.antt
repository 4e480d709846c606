-- The first of some causes or refusals, and the error that tells it.
use Rattle.std.proofs.Common.{◌≡◌, ℕ, Option, Some, None, Result, Ok, Err, refl, sym, ap, subst, ◌∙◌}
use Rattle.std.specs.Option.{option_or}
use Rattle.std.specs.Result.{IsErrAnd}
use Rattle.cops_read.specs.Refusals.{first_or}

module _ {A : Type 0} where
  pub or_assoc : (a b c : Option A) → option_or (option_or a b) c ≡ option_or a (option_or b c)
  or_assoc None b c = refl
  or_assoc (Some r) b c = refl

  -- equal firsts, and equal others where there is no first
  pub or_same : (a b x y : Option A) → a ≡ b → (b ≡ None → x ≡ y) → option_or a x ≡ option_or b y
  or_same a None x y h g = ap (λ (o : Option A). option_or o x) h ∙ g refl
  or_same a (Some r) x y h g = ap (λ (o : Option A). option_or o x) h

  pub none_first : (a b : Option A) → option_or a b ≡ None → a ≡ None
  none_first None b h = refl
  none_first (Some r) b h = h

  pub none_then : (a b : Option A) → option_or a b ≡ None → b ≡ None
  none_then None b h = h
  none_then (Some r) b h = cc

  pub none_of_both : (a b : Option A) → a ≡ None → b ≡ None → option_or a b ≡ None
  none_of_both a b h g = ap (λ (o : Option A). option_or o b) h ∙ g

module _ {C : Type 0} where
  pub first_or_or : (c : Option C) (at : ℕ) (a b : Option (C × ℕ)) → first_or c at (option_or a b) ≡ option_or (first_or c at a) b
  first_or_or None at a b = refl
  first_or_or (Some cause) at a b = refl

  -- equal others where there is no cause
  pub first_same : (c : Option C) (at : ℕ) (a b : Option (C × ℕ)) → (c ≡ None → a ≡ b) → first_or c at a ≡ first_or c at b
  first_same None at a b h = h refl
  first_same (Some cause) at a b h = refl

  pub first_stays : (c : Option C) (at : ℕ) (others : Option (C × ℕ)) (r : C × ℕ) → first_or c at None ≡ Some r → first_or c at others ≡ Some r
  first_stays None at others r h = cc
  first_stays (Some cause) at others r h = h

  pub no_cause : (c : Option C) (at : ℕ) (o : Option (C × ℕ)) → first_or c at o ≡ None → c ≡ None
  no_cause None at o h = refl
  no_cause (Some cause) at o h = cc

  pub no_later : (c : Option C) (at : ℕ) (o : Option (C × ℕ)) → first_or c at o ≡ None → o ≡ None
  no_later None at o h = h
  no_later (Some cause) at o h = cc

  pub nothing_first : (c : Option C) (at : ℕ) (o : Option (C × ℕ)) → c ≡ None → o ≡ None → first_or c at o ≡ None
  nothing_first c at o h g = ap (λ (c : Option C). first_or c at o) h ∙ g

-- a refusal has one cause, also where it is a part of another
pub same_refusal : {C D : Type 0} (f : C → D) (o : Option (C × ℕ)) (c d : C) (at place : ℕ) → o ≡ Some (c, at) → o ≡ Some (d, place) → (f c ≡ f d) × (at ≡ place)
same_refusal {C} f o c d at place h g =
    let pair : (c, at) ≡ (d, place) = cc in
    (ap (λ (r : C × ℕ). f r.0) pair, ap (λ (r : C × ℕ). r.1) pair)

-- where one call hands on the error of another
module _ {A E : Type 0} (P : Result A E → Type 0) where
  pub handed : (e : E) (r : Result A E) → IsErrAnd r (λ d. d ≡ e) → P (Err e) → P r
  handed e (Ok x) is p = absurd is
  handed e (Err d) is p = subst (λ (x : E). P (Err x)) (sym is) p
