-- The entries that are tried for one symbol, in order.
use Rattle.std.specs.Prelude.{ℕ, suc, ◌≡◌, ◌+◌, List, [], ◌∷◌, ◌++◌, Bool, true, false, slice_index_or}
use Rattle.rewriting.specs.Unraveling.{Head}
use Rattle.certificates.specs.Certificates.{LinearEntry}
use Rattle.term_core.specs.Numbering.{numbers_from}
use Rattle.measure_grid.specs.Grid.{ranges, entries_of}

-- the first of a symbol with so many arguments
abbrev pub IsFirstOf : Head → ℕ → LinearEntry → Type 0
IsFirstOf head arity e = (behind : List LinearEntry) × (entries_of (head, arity) ≡ e ∷ behind)

-- the second is the next behind the first
abbrev pub FollowsIn : Head → ℕ → LinearEntry → LinearEntry → Type 0
FollowsIn head arity e next = (before : List LinearEntry) × (behind : List LinearEntry) × (entries_of (head, arity) ≡ before ++ e ∷ next ∷ behind)

abbrev pub IsLastOf : Head → ℕ → LinearEntry → Type 0
IsLastOf head arity e = (before : List LinearEntry) × (entries_of (head, arity) ≡ before ++ e ∷ [])

abbrev pub IsIn : Head → ℕ → LinearEntry → Type 0
IsIn head arity e = (before : List LinearEntry) × (behind : List LinearEntry) × (entries_of (head, arity) ≡ before ++ e ∷ behind)

-- of whatever symbol it is an entry, there is a next one, or it is the last
abbrev pub AdvanceAnswers : LinearEntry → LinearEntry → Bool → Type 0
AdvanceAnswers e next true = (arity : ℕ) → IsIn e.head arity e → FollowsIn e.head arity e next
AdvanceAnswers e next false = (arity : ℕ) → IsIn e.head arity e → IsLastOf e.head arity e

-- at a place of the symbol's numbers those from the lowest to the highest are tried
abbrev pub AreTriedAt : Head → ℕ → ℕ → ℕ → ℕ → Type 0
AreTriedAt head arity place lowest highest = (more : ℕ) × (highest ≡ lowest + more) × (slice_index_or (ranges head arity) place [] ≡ numbers_from lowest (suc more))
