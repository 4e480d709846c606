-- How far a reader has come where it refuses a text.
use Rattle.std.specs.Prelude.{◌++◌, codes, ◌≡◌, ◌⊎◌, ◌<◌, ℕ, suc, List, [], ◌∷◌}
use Rattle.cert_grammar.specs.Prelude.{Item, between, line, pairs_from, entries_from, heads_from, Version, first_version, second_version}
use Rattle.cert_openings.specs.Openings.{BeginsEntry}
pub use Rattle.cert_words.specs.Walks.{Place, Anywhere, StopsWhere, IsStoppedWhere, ReadsWhere}

-- the item below the others
abbrev pub lowest : Item → List Item → Item
lowest i [] = i
lowest i (j ∷ items) = lowest j items

-- what stands from an overlap on behind the one with this number
abbrev pub IsBehind : Version → ℕ → Item → Type 0
IsBehind v n i = (m : ℕ) × (i ≡ pairs_from v m) × (n < m)

-- nothing more is left, or such an item below the others; or the end of the last line alone
abbrev pub AreAbove : (Item → Type 0) → List Item → Type 0
AreAbove P [] = Unit {0}
AreAbove P (i ∷ items) = P (lowest i items) ⊎ (i ∷ items ≡ between line ∷ [])

abbrev pub AreBehind : Version → ℕ → List Item → Type 0
AreBehind v n items = AreAbove (IsBehind v n) items

-- entries, or overlaps; in the second version the symbols of a precedence too
abbrev pub BeginsList : Version → Item → Type 0
BeginsList first_version i = ((n : ℕ) × (i ≡ entries_from first_version n)) ⊎ ((n : ℕ) × (i ≡ pairs_from first_version (suc n)))
BeginsList second_version i = ((n : ℕ) × (i ≡ entries_from second_version n)) ⊎ (((n : ℕ) × (i ≡ pairs_from second_version (suc n))) ⊎ ((n : ℕ) × (i ≡ heads_from n)))

-- within an opening: no overlap has begun, and none nor the last line may begin
pub record WithinOpening (v : Version) (items : List Item) (bytes : List ℕ) : Type 0 where
  pub early : AreBehind v 1 items → ⊥
  pub closed : (i : Item) → items ≡ i ∷ [] → BeginsList v i → BeginsEntry bytes → ⊥

-- the same in either version
abbrev pub BeforeEntries : Place
BeforeEntries items bytes = (v : Version) → WithinOpening v items bytes

-- within the entry with this number, which begins with these bytes: it has no end yet; or the last line stands there, and its word is read
pub record WithinEntry (v : Version) (n : ℕ) (begun : List ℕ) (items : List Item) (bytes : List ℕ) : Type 0 where
  pub early : AreBehind v (suc n) items → begun ≡ codes "end" ++ bytes
  pub going : items ≡ pairs_from v (suc n) ∷ [] → ⊥
