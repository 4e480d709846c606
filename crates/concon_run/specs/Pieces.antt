-- What the pieces of a text spell.
use Rattle.std.specs.Prelude.{◌++◌, ◌∷◌, ℕ, List, [], decimal}
use Rattle.concon_run.specs.declared.pieces.Piece.{Piece}
use Rattle.concon_run.specs.declared.pieces.Piece.TheVariants.{Text, Number, Place, Count, Path, Position, States, Name}
use Rattle.cert_grammar.specs.Words.{each_behind, position_text}
use Rattle.concon_run.specs.Paths.{path_text}

abbrev pub piece_text : Piece → List ℕ
piece_text (Text bytes) = bytes.now
piece_text (Number n) = decimal n
piece_text (Place at) = decimal at
piece_text (Count n) = decimal n
piece_text (Path numbers) = path_text numbers.now
piece_text (Position numbers) = position_text numbers.now
piece_text (States numbers) = each_behind 32 numbers.now
piece_text (Name name) = name.now

-- one piece after the other
abbrev pub pieces_text : List Piece → List ℕ
pieces_text [] = []
pieces_text (p ∷ []) = piece_text p
pieces_text (p ∷ q ∷ ps) = piece_text p ++ pieces_text (q ∷ ps)
