-- Paths in texts.
use Rattle.std.specs.Prelude.{◌∷◌, ℕ, List, []}
use Rattle.cert_grammar.specs.Words.{position_text}

-- numbers with dots between them
abbrev pub path_text : List ℕ → List ℕ
path_text [] = []
path_text (n ∷ ns) = position_text (n ∷ ns)
