-- The first place at which an entry is wrong, missing or surplus.
use Rattle.std.proofs.Common.{◌≡◌, ℕ, ◌<◌, ◌≤◌, ◌⊎◌, inl, inr, max, List, length, Option, Some, None, MatchOption, arith}
use Rattle.std.proofs.lemmas.Bool.{cases_lt}
use Rattle.rewriting.specs.Unraveling.{Head}
use Rattle.certificates.specs.Certificates.{LinearEntry}
use Rattle.linear_interp.specs.Entries.{IsEntryAt, MisshapenAnswers}

-- among as many places as the longer list has
module _ (hs : List Head) (ar : List ℕ) (es : List LinearEntry) (n : ℕ) (is : n ≡ max (length hs) (length es)) where
  longer : (k : ℕ) → k < n → (k < length es) ⊎ (k < length hs)
  longer k lt = go (cases_lt k (length es))
    where
      go : (k < length es) ⊎ (length es ≤ k) → (k < length es) ⊎ (k < length hs)
      go (inl less) = inl less
      go (inr more) = inr (omega (arith, is, lt, more))

  all : (k : ℕ) → (k < length es) ⊎ (k < length hs) → k < n
  all k (inl less) = omega (arith, is, less)
  all k (inr less) = omega (arith, is, less)

  pub first_misshapen : (o : Option ℕ)
      → MatchOption o ((k : ℕ) → 0 ≤ k → k < n → IsEntryAt hs ar es k) (λ i. (0 ≤ i) × (i < n) × (IsEntryAt hs ar es i → ⊥) × ((k : ℕ) → 0 ≤ k → k < i → IsEntryAt hs ar es k))
      → MisshapenAnswers hs ar es o
  first_misshapen None h = λ k within. h k (omega arith) (all k within)
  first_misshapen (Some i) (from, lt, wrong, before) = (longer i lt, (λ j less. before j (omega arith) less), wrong)
