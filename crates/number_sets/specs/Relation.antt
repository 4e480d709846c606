-- Relations between numbers.
use Rattle.std.specs.Prelude.{ℕ, ◌≡◌, ◌<◌, ◌⊎◌, if◌then◌else◌, nat_le, List, [], Option, None, Some, slice_get}
use Rattle.std.specs.Borrow.{Bor}
use Rattle.rewriting.specs.Lists.{IsAmong}
use Rattle.number_sets.specs.Sets.{members}
use Rattle.number_sets.specs.declared.words.NumberSet.{NumberSet}
use Rattle.number_sets.specs.declared.rows.NumberRelation.{NumberRelation}

abbrev pub members_of : Option NumberSet → List ℕ
members_of None = []
members_of (Some set) = members set

-- the numbers of a set, if there is one
abbrev pub members_at : Option (Bor NumberSet) → List ℕ
members_at None = []
members_at (Some set) = members set.now

-- the numbers to which p is related
abbrev pub row_of : NumberRelation → ℕ → List ℕ
row_of r p = members_of (slice_get r.rows.items p)

-- p is related to q
abbrev pub Relates : NumberRelation → ℕ → ℕ → Type 0
Relates r p q = IsAmong q (row_of r p)

-- (p, q) is the first pair that another relation lacks, in order by the right number, then the left
pub record IsFirstPair (r other : NumberRelation) (p q : ℕ) : Type 0 where
  pub inside : Relates r p q
  pub lacking : Relates other p q → ⊥
  pub earlier : (left right : ℕ) → Relates r left right → (right < q) ⊎ ((right ≡ q) × (left < p)) → Relates other left right

abbrev pub PairAnswers : NumberRelation → NumberRelation → Option (ℕ × ℕ) → Type 0
PairAnswers r other None = (p q : ℕ) → Relates r p q → Relates other p q
PairAnswers r other (Some (p, q)) = IsFirstPair r other p q

-- the earlier of two pairs by their right numbers; the first where these are equal
abbrev pub earlier_pair : Option (ℕ × ℕ) → ℕ → ℕ → Option (ℕ × ℕ)
earlier_pair None left right = Some (left, right)
earlier_pair (Some (p, q)) left right = if nat_le q right then Some (p, q) else Some (left, right)
