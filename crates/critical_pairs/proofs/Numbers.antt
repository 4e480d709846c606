-- The numbers that the rules of an earlier system have now, one after the other.
use Rattle.std.proofs.Common.{ℕ, zero, suc, ◌≡◌, ◌<◌, ◌≤◌, ◌-◌, ◌⊎◌, inl, inr, List, [], ◌∷◌, length, get_or, set, Option, Some, None, IfSome, refl, sym, ap, ◌∙◌, subst, arith}
use Rattle.std.proofs.lemmas.List.{length-set, get_or-set_same, get_or-set_other}
use Rattle.std.proofs.lemmas.Bool.{cases_eq}
use Rattle.general_lemmas.proofs.Numbers.{le_or_next}
use Rattle.rewriting.specs.Rules.{System}
use Rattle.critical_pairs.specs.Kept.{number_at, noted, AreOrigins, AreNumbersNow}
use Rattle.critical_pairs.proofs.Origins.{rule_inside, one_number}

-- those of the first n rules
pub record AreFirstNumbers (os now : List (Option ℕ)) (n : ℕ) : Type 0 where
  pub sound : (i m : ℕ) → number_at now m ≡ Some i → number_at os i ≡ Some m
  pub whole : (i m : ℕ) → i ≤ n → number_at os i ≡ Some m → number_at now m ≡ Some i

-- the next rule has no origin
pub no_origin : (os now : List (Option ℕ)) (n : ℕ) → number_at os (suc n) ≡ None → AreFirstNumbers os now n → AreFirstNumbers os now (suc n)
no_origin os now n none h = record { sound = h.sound; whole = λ i m small g. go i m g (le_or_next i n small) }
  where
    go : (i m : ℕ) → number_at os i ≡ Some m → (i ≤ n) ⊎ (i ≡ suc n) → number_at now m ≡ Some i
    go i m g (inl less) = h.whole i m less g
    go i m g (inr same) = (let two : None ≡ Some m = sym none ∙ (ap (number_at os) (sym same) ∙ g) in absurd (cc))

set_there : (now : List (Option ℕ)) (k : ℕ) (v : Option ℕ) (m : ℕ) → k < length now → m ≡ suc k → number_at (set now k v) m ≡ v
set_there now k v m h e = subst (λ z. number_at (set now k v) z ≡ v) (sym e) (get_or-set_same now k v None h)

set_elsewhere : (now : List (Option ℕ)) (k : ℕ) (v : Option ℕ) (m : ℕ) → (m ≡ suc k → ⊥) → number_at (set now k v) m ≡ number_at now m
set_elsewhere now k v zero n = refl
set_elsewhere now k v (suc m) n = get_or-set_other now k m v None (λ e. n (ap suc e))

-- the next rule has an origin
module _ (e sys : System) (os : List (Option ℕ)) (are : AreOrigins e sys os) (now : List (Option ℕ)) (n k : ℕ) (there : number_at os (suc n) ≡ Some (suc k))
    (inside : k < length now) (h : AreFirstNumbers os now n) where
  sound_next : (i m : ℕ) → (m ≡ suc k) ⊎ (m ≡ suc k → ⊥) → number_at (set now k (Some (suc n))) m ≡ Some i → number_at os i ≡ Some m
  sound_next i m (inl same) g =
      let two : Some (suc n) ≡ Some i = sym (set_there now k (Some (suc n)) m inside same) ∙ g in
      let number : suc n ≡ i = cc in
      ap (number_at os) (sym number) ∙ (there ∙ ap Some (sym same))
  sound_next i m (inr other) g = h.sound i m (sym (set_elsewhere now k (Some (suc n)) m other) ∙ g)

  whole_next : (i m : ℕ) → (i ≤ n) ⊎ (i ≡ suc n) → (m ≡ suc k) ⊎ (m ≡ suc k → ⊥) → number_at os i ≡ Some m → number_at (set now k (Some (suc n))) m ≡ Some i
  whole_next i m low (inl same) g = set_there now k (Some (suc n)) m inside same ∙ ap Some (one_number e sys os are (suc n) i (suc k) m (sym same) there g)
  whole_next i m (inl low) (inr other) g = set_elsewhere now k (Some (suc n)) m other ∙ h.whole i m low g
  whole_next i m (inr number) (inr other) g = (let two : Some (suc k) ≡ Some m = sym there ∙ (ap (number_at os) (sym number) ∙ g) in let same : suc k ≡ m = cc in absurd (other (sym same)))

  pub one_more_number : AreFirstNumbers os (set now k (Some (suc n))) (suc n)
  one_more_number = record { sound = λ i m. sound_next i m (cases_eq m (suc k)); whole = λ i m small. whole_next i m (le_or_next i n small) (cases_eq m (suc k)) }

pub next_noted : (e sys : System) (os : List (Option ℕ)) → AreOrigins e sys os → (now : List (Option ℕ)) (n next : ℕ) (o : Option ℕ) → next ≡ suc n → get_or os n None ≡ o
    → length now ≡ length e.rules → AreFirstNumbers os now n
    → (length (noted now o next) ≡ length e.rules) × AreFirstNumbers os (noted now o next) next
next_noted e sys os are now n next None is at long h = (long, subst (AreFirstNumbers os now) (sym is) (no_origin os now n at h))
next_noted e sys os are now n next (Some zero) is at long h = (let low = (rule_inside e sys os are (suc n) zero at).0 in absurd (omega (arith, low)))
next_noted e sys os are now n next (Some (suc k)) is at long h =
    let high = (rule_inside e sys os are (suc n) (suc k) at).1 in
    let one : suc k - 1 ≡ k = omega arith in (
      length-set now (suc k - 1) (Some next) ∙ long,
      subst (λ y. AreFirstNumbers os (set now y (Some next)) next) (sym one)
          (subst (λ y. AreFirstNumbers os (set now k (Some y)) y) (sym is) (one_more_number e sys os are now n k at (omega (arith, high, long)) h)),
    )

pub number_fits : (e sys : System) (os : List (Option ℕ)) → AreOrigins e sys os → (now : List (Option ℕ)) (n : ℕ) (o : Option ℕ) → get_or os n None ≡ o
    → length now ≡ length e.rules → IfSome o (λ m. (0 < m) × (m ≤ length now))
number_fits e sys os are now n None at long = tt
number_fits e sys os are now n (Some m) at long = (let r = rule_inside e sys os are (suc n) m at in (r.0, subst (λ z. m ≤ z) (sym long) r.1))

-- all of them
pub all_numbers : (os now : List (Option ℕ)) (n : ℕ) → length os ≤ n → AreFirstNumbers os now n → AreNumbersNow os now
all_numbers os now n all h = λ i m. (λ g. h.whole i m (within os i m n all g) g, λ g. h.sound i m g)
  where
    short : (os : List (Option ℕ)) (k m : ℕ) → get_or os k None ≡ Some m → k < length os
    short [] k m g = absurd (cc)
    short (x ∷ os) zero m g = omega arith
    short (x ∷ os) (suc k) m g = let h = short os k m g in omega (arith, h)

    within : (os : List (Option ℕ)) (i m n : ℕ) → length os ≤ n → number_at os i ≡ Some m → i ≤ n
    within os zero m n all g = omega arith
    within os (suc k) m n all g = let h = short os k m g in omega (arith, h, all)
