-- Where a byte of a text stands.
use Rattle.std.specs.Prelude.{◌≡◌, ◌⊎◌, ◌≤◌, ◌<◌, ◌+◌, ◌≢◌, ℕ, List, length, take, min, slice_index, nat_eq}
use Rattle.std.specs.List.{count_by}
use Rattle.text_places.specs.declared.place.Place.{Place}

-- how many line feeds a text has
abbrev pub feeds : List ℕ → ℕ
feeds = count_by (λ byte. nat_eq byte 10)

-- a line begins at the beginning of a text, and behind each line feed
abbrev pub BeginsLine : List ℕ → ℕ → Type 0
BeginsLine bytes start = (start ≡ 0) ⊎ ((k : ℕ) × (start ≡ k + 1) × (slice_index bytes k ≡ 10))

-- it ends at a line feed, and at the end of the text
abbrev pub EndsLine : List ℕ → ℕ → Type 0
EndsLine bytes end = (end ≡ length bytes) ⊎ (slice_index bytes end ≡ 10)

-- there is no line feed from a byte on and before another
abbrev pub HasNoFeed : List ℕ → ℕ → ℕ → Type 0
HasNoFeed bytes start end = (k : ℕ) → start ≤ k → k < end → slice_index bytes k ≢ 10

-- a number of a byte; where the text is shorter, its end
abbrev pub byte_of : List ℕ → ℕ → ℕ
byte_of bytes at = min at (length bytes)

-- The line's number is one more than there are line feeds before the byte, and the column one more than there are bytes from the line's first to it.
pub record IsPlace (bytes : List ℕ) (at : ℕ) (p : Place) : Type 0 where
  pub line : p.line ≡ feeds (take at bytes) + 1
  pub column : p.start + p.column ≡ byte_of bytes at + 1
  pub begins : BeginsLine bytes p.start
  pub ends : EndsLine bytes p.end
  pub one : HasNoFeed bytes p.start p.end
  pub before : p.start ≤ byte_of bytes at
  pub behind : byte_of bytes at ≤ p.end
  pub within : p.end ≤ length bytes
