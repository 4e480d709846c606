-- Laws of the marks of texts: the grammar is deterministic.
use Rattle.std.specs.Prelude.{ℕ, List, [], ◌∷◌}
use Rattle.cert_grammar.specs.Prelude.{Mark, Skeleton, marks_of, GoesTo}

-- bytes go along the marks up to some mark
abbrev pub GoesAlong : List Mark → List ℕ → Type 0
GoesAlong ms bytes = (front : List Mark) × (mark : Mark) × GoesTo ms bytes front mark

-- the same marks up to the end, or up to where no bytes go along both
pub data Alike : List Mark → List Mark → Type 0 where
  ended : Alike [] []
  same : {m : Mark} {ms ns : List Mark} → Alike ms ns → Alike (m ∷ ms) (m ∷ ns)
  parted : {m n : Mark} {ms ns : List Mark} → ((bytes : List ℕ) → GoesAlong (m ∷ ms) bytes → GoesAlong (n ∷ ns) bytes → ⊥) → Alike (m ∷ ms) (n ∷ ns)

-- what bytes go along is determined by them
abbrev pub IsDeterministic : Type 0
IsDeterministic = (s t : Skeleton) → Alike (marks_of s) (marks_of t)
