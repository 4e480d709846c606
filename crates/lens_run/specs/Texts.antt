-- What is said of a text that is refused.
use Rattle.std.specs.Prelude.{◌≡◌, ◌++◌, ℕ, List, codes, decimal}
use Rattle.text_places.specs.Places.{IsPlace}
use Rattle.text_places.specs.Marks.{IsMarked}
use Rattle.text_places.specs.declared.place.Place.{Place}

-- the word for a text, the line and the column of the place, and why
abbrev pub refused_line : List ℕ → Place → List ℕ → List ℕ
refused_line name p why = name ++ (codes ":" ++ (decimal p.line ++ (codes ":" ++ (decimal p.column ++ (codes ": " ++ (why ++ codes "\n"))))))

-- and below it the line of the text with a mark, and what may stand there
pub record IsRefusalText (name bytes : List ℕ) (at : ℕ) (why text : List ℕ) : Type 0 where
  pub place : Place
  pub marked : List ℕ
  pub may_stand : List ℕ
  pub is_place : IsPlace bytes at place
  pub is_marked : IsMarked bytes at marked
  pub spelt : text ≡ refused_line name place why ++ (marked ++ (may_stand ++ codes "\n"))

-- of a text that is too long no line is shown
abbrev pub too_long_text : List ℕ → List ℕ → List ℕ
too_long_text name most = name ++ (codes ": too long\n" ++ most)
