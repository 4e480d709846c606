-- A line of a text, with a mark below it.
use Rattle.std.specs.Prelude.{◌≡◌, ◌≤◌, ◌+◌, ◌++◌, ℕ, Bool, true, false, ◌||◌, List, [], map, codes, nat_eq, nat_lt, nat_le, ◌&&◌, if◌then◌else◌, slice_range}
use Rattle.std.specs.List.{flat_map}
use Rattle.text_places.specs.Places.{IsPlace, byte_of}
use Rattle.text_places.specs.declared.place.Place.{Place}

-- a byte as it is shown: a carriage return as a space, and every other control but a tab as a question mark
abbrev pub shown : ℕ → ℕ
shown b = if nat_eq b 9 then b else if nat_eq b 13 then 32 else if nat_lt b 32 || nat_eq b 127 then 63 else b

-- what stands below it: a tab below a tab, and nothing below a byte that goes on with a character
abbrev pub blank : ℕ → List ℕ
blank b = if nat_eq b 9 then codes "\t" else if nat_le 128 b && nat_lt b 192 then [] else codes " "

-- what stands for bytes that are not shown, and below it
abbrev pub dots_if : Bool → List ℕ
dots_if true = codes "..."
dots_if false = []

abbrev pub blanks_if : Bool → List ℕ
blanks_if true = codes "   "
blanks_if false = []

-- a line of which these bytes are shown, and below it the mark behind the first of them
abbrev pub line_text : Bool → List ℕ → Bool → List ℕ
line_text more_before bytes more_behind = dots_if more_before ++ (map shown bytes ++ (dots_if more_behind ++ codes "\n"))

abbrev pub mark_text : Bool → List ℕ → List ℕ
mark_text more_before before = blanks_if more_before ++ (flat_map blank before ++ codes "^\n")

-- the bytes from one on and before another are shown, of the place's line, at most 120 and the one at the place among them
pub record IsShown (p : Place) (at from to : ℕ) : Type 0 where
  pub begins : p.start ≤ from
  pub before : from ≤ at
  pub behind : at ≤ to
  pub ends : to ≤ p.end
  pub short : to ≤ from + 120

-- the line of the place and below it the mark
abbrev pub IsMarked : List ℕ → ℕ → List ℕ → Type 0
IsMarked bytes at text =
    (p : Place) × (from : ℕ) × (to : ℕ) × IsPlace bytes at p × IsShown p (byte_of bytes at) from to
    × (text ≡ line_text (nat_lt p.start from) (slice_range bytes from to) (nat_lt to p.end) ++ mark_text (nat_lt p.start from) (slice_range bytes from (byte_of bytes at)))
