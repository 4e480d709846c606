-- What the functions on entries answer.
use Rattle.std.specs.Prelude.{ℕ, zero, suc, ◌≡◌, ◌<◌, ◌≤◌, ◌⊎◌, List, length, slice_get, option_map, Option, None, Some}
use Rattle.interpretations.specs.declared.TheConstants.{MOST_COEFFICIENT}
use Rattle.rewriting.specs.Unraveling.{Head}
use Rattle.certificates.specs.Certificates.{LinearEntry}

-- the entry at a place is that of the symbol there
abbrev pub IsEntryAt : List Head → List ℕ → List LinearEntry → ℕ → Type 0
IsEntryAt heads arities es k = (e : LinearEntry) × (slice_get es k ≡ Some e) × (slice_get heads k ≡ Some e.head) × (option_map suc (slice_get arities k) ≡ Some (length e.coefficients))

abbrev pub MisshapenAnswers : List Head → List ℕ → List LinearEntry → Option ℕ → Type 0
MisshapenAnswers heads arities es (Some k) = ((k < length es) ⊎ (k < length heads)) × ((j : ℕ) → j < k → IsEntryAt heads arities es j) × (IsEntryAt heads arities es k → ⊥)
MisshapenAnswers heads arities es None = (k : ℕ) → (k < length es) ⊎ (k < length heads) → IsEntryAt heads arities es k

-- number k is small enough, and at least 1 where it is the constant of a symbol with arguments or belongs to an active argument
abbrev pub IsActiveNumber : ℕ → ℕ → ℕ → ℕ → Type 0
IsActiveNumber symbols f count zero = 2 ≤ count
IsActiveNumber symbols f count (suc k) = (f < symbols) ⊎ (suc k ≡ 1)

abbrev pub IsNumberGood : ℕ → ℕ → ℕ → ℕ → ℕ → Type 0
IsNumberGood symbols f count k c = (c ≤ MOST_COEFFICIENT) × (IsActiveNumber symbols f count k → 1 ≤ c)

abbrev pub AreGoodBelow : ℕ → ℕ → List ℕ → ℕ → Type 0
AreGoodBelow symbols f cs n = (k c : ℕ) → k < n → slice_get cs k ≡ Some c → IsNumberGood symbols f (length cs) k c

abbrev pub BadAnswers : ℕ → List LinearEntry → Option ℕ → Type 0
BadAnswers symbols es (Some k) =
    (e : LinearEntry) × (slice_get es k ≡ Some e) × ((j : ℕ) (d : LinearEntry) → j < k → slice_get es j ≡ Some d → AreGoodBelow symbols j d.coefficients (length d.coefficients))
    × (AreGoodBelow symbols k e.coefficients (length e.coefficients) → ⊥)
BadAnswers symbols es None = (j : ℕ) (d : LinearEntry) → slice_get es j ≡ Some d → AreGoodBelow symbols j d.coefficients (length d.coefficients)
