-- Terms that stand in a list of identifiers.
use Rattle.std.specs.Prelude.{◌≡◌, ℕ, List, ◌++◌, drop, map}
use Rattle.file_text.specs.Syntax.{Phrase, Phrases, count, Node, flat, flat_all}

module _ {N : Type 0} (node : N → Node) (ns : List N) (i : ℕ) where
  -- a term begins at this place
  abbrev pub IsTermThere : Type 0
  IsTermThere = (p : Phrase) × (rest : List Node) × (map node (drop i ns) ≡ flat p ++ rest)

  -- so many terms stand one behind the other, the first at this place
  abbrev pub AreTermsThere : ℕ → Type 0
  AreTermsThere n = (ps : Phrases) × (rest : List Node) × (n ≡ count ps) × (map node (drop i ns) ≡ flat_all ps ++ rest)
