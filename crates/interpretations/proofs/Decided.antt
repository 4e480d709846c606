-- Each part of the judgement of an interpretation is decided.
use Rattle.std.proofs.Common.{◌≡◌, ℕ, zero, suc, ◌^◌, ◌<◌, ◌≤◌, ◌⊎◌, inl, inr, refl, ap, subst, List, [], ◌∷◌, length, slice_get, Option, Some, None, option_map}
use Rattle.std.proofs.Common.{arith}
use native.Mathlib.Decide.{ℕ_discrete}
use Rattle.std.proofs.lemmas.Bool.{cases_lt}
use Rattle.general_lemmas.proofs.Numbers.{le_or_lt, not_counted}
use Rattle.rewriting.specs.Prelude.{Fits, unraveled, heads, Head, file, auxiliary, IsActive, DoSidesFit}
use Rattle.rewriting.proofs.Common.{Term, var, app, Terms, nil, cons, Rule, System}
use Rattle.rewriting.proofs.Decided.{IsDecided, at_most, as_other, both, either, asked, has_part}
use Rattle.rewriting.proofs.Equality.{fits_decided}
use Rattle.rewriting.proofs.Search.{FirstBelow, search_below, FirstAt, search_at, decided}
use Rattle.certificates.specs.Certificates.{LinearEntry}
use Rattle.interpretations.specs.Linear.{Interpretation, constant, coefficient, coefficient_from, IsEntry, AreNumbersGood, IsLarge, Overflows, AreCoefficientsKept, Falls}
use Rattle.interpretations.specs.Judged.{IsFirstSmaller, IsConstantKept}
use Rattle.interpretations.proofs.Values.{above, above_all}

-- whether sides fit
fit : (t : Term) → IsDecided (Fits t)
fit t = decided (fits_decided t)

pub sides_fit : (rs : List Rule) → IsDecided (DoSidesFit rs)
sides_fit [] = inl tt
sides_fit (r ∷ rs) = both {A = Fits r.left × Fits r.right} (λ d h. (d.0, d.1, h)) (λ h. (h.0, h.1)) (λ h. h.2) (both (λ l k. (l, k)) (λ d. d.0) (λ d. d.1) (fit r.left) (fit r.right)) (sides_fit rs)

-- whether there is an entry for a symbol
pub same_head : (a b : Head) → IsDecided (a ≡ b)
same_head (file f) (file g) = as_other (ap file) (λ e. cc) (decided (ℕ_discrete f g))
same_head (file f) (auxiliary i k) = inr (λ e. cc)
same_head (auxiliary i k) (file g) = inr (λ e. cc)
same_head (auxiliary i k) (auxiliary j m) = both (λ e d. cc) (λ e. cc) (λ e. cc) (decided (ℕ_discrete i j)) (decided (ℕ_discrete k m))

is_some : {A : Type 0} → ((a b : A) → IsDecided (a ≡ b)) → (o : Option A) (a : A) → IsDecided (o ≡ Some a)
is_some test None a = inr (λ e. cc)
is_some {A = A} test (Some b) a = as_other (ap Some) back (test b a)
  where
    back : Some b ≡ Some a → b ≡ a
    back e = cc

module _ (sys : System) (es : Interpretation) where
  pub entry : (k : ℕ) → IsDecided (IsEntry sys es k)
  entry k = go (slice_get es k) refl
    where
      go : (o : Option LinearEntry) → slice_get es k ≡ o → IsDecided (IsEntry sys es k)
      go None none = inr (λ h. let is = h.is_entry in cc)
      go (Some e) is =
          both (λ h n. record { entry = e; is_entry = is; head = h; numbers = n })
          (λ h. let same : h.entry ≡ e = (let other = h.is_entry in cc) in subst (λ z. slice_get (heads sys) k ≡ Some z.head) same h.head)
          (λ h. let same : h.entry ≡ e = (let other = h.is_entry in cc) in subst (λ z. option_map suc (slice_get (unraveled sys).arities k) ≡ Some (length z.coefficients)) same h.numbers)
          (is_some same_head (slice_get (heads sys) k) e.head)
          (is_some (λ a b. decided (ℕ_discrete a b)) (option_map suc (slice_get (unraveled sys).arities k)) (length e.coefficients))

-- whether the numbers of a symbol are good
module _ (sys : System) (f : ℕ) (cs : List ℕ) where
  -- the least that number k may be is 1
  abbrev IsAsked : ℕ → Type 0
  IsAsked zero = 2 ≤ length cs
  IsAsked (suc k) = IsActive sys f (suc k)

  abbrev IsNumberGood : ℕ → ℕ → Type 0
  IsNumberGood k c = (c ≤ 1000000) × (IsAsked k → 1 ≤ c)

  is_asked : (k : ℕ) → IsDecided (IsAsked k)
  is_asked zero = at_most 2 (length cs)
  is_asked (suc k) = either (at_most (suc f) (length sys.arities)) (decided (ℕ_discrete (suc k) 1))

  number_good : (k c : ℕ) → IsDecided (IsNumberGood k c)
  number_good k c = both (λ s a. (s, a)) (λ h. h.0) (λ h. h.1) (at_most c 1000000) (asked (is_asked k) (at_most 1 c))

  of_numbers : AreNumbersGood sys f cs → (k c : ℕ) → slice_get cs k ≡ Some c → IsNumberGood k c
  of_numbers g zero c at = (g.small 0 c at, λ many. g.constant c at many)
  of_numbers g (suc k) c at = (g.small (suc k) c at, λ active. g.active k c at active)

  pub numbers_good : IsDecided (AreNumbersGood sys f cs)
  numbers_good = go (search_at IsNumberGood (λ k c. IsNumberGood k c → ⊥) cs (λ k c at. number_good k c))
    where
      go : ((k c : ℕ) → slice_get cs k ≡ Some c → IsNumberGood k c) ⊎ FirstAt IsNumberGood (λ k c. IsNumberGood k c → ⊥) cs → IsDecided (AreNumbersGood sys f cs)
      go (inl all) = inl (record { small = λ k c at. (all k c at).0; active = λ k c at active. (all (suc k) c at).1 active; constant = λ c at many. (all 0 c at).1 many })
      go (inr first) = inr (λ g. first.has (of_numbers g first.number first.found first.is_there))

-- why the value does not fall at a rule
pub data DoesNotFall (es : Interpretation) (r : Rule) : Type 0 where
  overflows : Overflows es r → DoesNotFall es r
  variable_counts_more : (x : ℕ) → IsFirstSmaller es x r → DoesNotFall es r
  constant_is_kept : IsConstantKept es r → DoesNotFall es r

module _ (es : Interpretation) where
  mutual
    coefficient_above : (x : ℕ) (t : Term) → above t ≤ x → coefficient es x t ≡ 0
    coefficient_above x (var y) le = not_counted x y (λ same. omega (arith, le, same))
    coefficient_above x (app f ts) le = coefficient_above_all x f 1 ts le

    coefficient_above_all : (x f k : ℕ) (ts : Terms) → above_all ts ≤ x → coefficient_from es x f k ts ≡ 0
    coefficient_above_all x f k nil le = refl
    coefficient_above_all x f k (cons t ts) le =
        let here = coefficient_above x t (omega (arith, le)) in
        let there = coefficient_above_all x f (suc k) ts (omega (arith, le)) in
        rw (here, there) (omega arith)

  -- the variables above those of a term have no large coefficient
  large : (t : Term) → IsDecided (IsLarge es t)
  large t =
      either (at_most (suc (2 ^ 100)) (constant es t))
      (go (search_below (λ x. coefficient es x t ≤ 2 ^ 100) (λ x. 2 ^ 100 < coefficient es x t) (λ x. le_or_lt (coefficient es x t) (2 ^ 100)) (above t)))
    where
      go : ((x : ℕ) → x < above t → coefficient es x t ≤ 2 ^ 100) ⊎ FirstBelow (λ x. coefficient es x t ≤ 2 ^ 100) (λ x. 2 ^ 100 < coefficient es x t) (above t)
          → IsDecided ((x : ℕ) × (2 ^ 100 < coefficient es x t))
      go (inr first) = inl (first.number, first.has)
      go (inl all) = inr none
        where
          none : (x : ℕ) × (2 ^ 100 < coefficient es x t) → ⊥
          none (x, lt) = split (cases_lt x (above t))
            where
              split : (x < above t) ⊎ (above t ≤ x) → ⊥
              split (inl low) = let le = all x low in omega (arith, le, lt)
              split (inr high) = let e = coefficient_above x t high in omega (arith, e, lt)

  overflow : (r : Rule) → IsDecided (Overflows es r)
  overflow r = either (has_part (IsLarge es) large r.left) (has_part (IsLarge es) large r.right)

  abbrev Kept : Rule → ℕ → Type 0
  Kept r x = coefficient es x r.right ≤ coefficient es x r.left

  abbrev Smaller : Rule → ℕ → Type 0
  Smaller r x = coefficient es x r.left < coefficient es x r.right

  -- the value falls at a rule, or there is a first reason why not
  pub falls : (r : Rule) → Falls es r ⊎ DoesNotFall es r
  falls r = of_overflow (overflow r)
    where
      of_constants : (Overflows es r → ⊥) → AreCoefficientsKept es r → (constant es r.right < constant es r.left) ⊎ (constant es r.left ≤ constant es r.right) → Falls es r ⊎ DoesNotFall es r
      of_constants small kept (inl lt) = inl (record { bounded = small; coefficients = kept; constants = lt })
      of_constants small kept (inr le) = inr (constant_is_kept (small, kept, le))

      all_kept : ((x : ℕ) → x < above r.right → Kept r x) → AreCoefficientsKept es r
      all_kept below x = split (cases_lt x (above r.right))
        where
          split : (x < above r.right) ⊎ (above r.right ≤ x) → Kept r x
          split (inl low) = below x low
          split (inr high) = let e = coefficient_above x r.right high in omega (arith, e)

      of_coefficients : (Overflows es r → ⊥) → ((x : ℕ) → x < above r.right → Kept r x) ⊎ FirstBelow (Kept r) (Smaller r) (above r.right) → Falls es r ⊎ DoesNotFall es r
      of_coefficients small (inl below) = of_constants small (all_kept below) (cases_lt (constant es r.right) (constant es r.left))
      of_coefficients small (inr first) = inr (variable_counts_more first.number (small, first.has, first.before))

      of_overflow : IsDecided (Overflows es r) → Falls es r ⊎ DoesNotFall es r
      of_overflow (inl large) = inr (overflows large)
      of_overflow (inr small) = of_coefficients small (search_below (Kept r) (Smaller r) (λ x. le_or_lt (coefficient es x r.right) (coefficient es x r.left)) (above r.right))
