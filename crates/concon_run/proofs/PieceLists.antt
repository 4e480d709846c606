-- Pieces one after the other, and numbers behind a byte each.
use Rattle.std.proofs.Common.{◌≡◌, ℕ, List, [], ◌∷◌, ◌++◌, decimal, refl, ap}
use Rattle.std.specs.List.{flat_map}
use Rattle.std.proofs.lemmas.List.{append-nil}
use Rattle.cert_grammar.specs.Words.{each_behind}
use Rattle.concon_run.specs.declared.pieces.Piece.{Piece}
use Rattle.concon_run.specs.Pieces.{piece_text, pieces_text}

pub pieces-flat : (ps : List Piece) → flat_map piece_text ps ≡ pieces_text ps
pieces-flat [] = refl
pieces-flat (p ∷ []) = append-nil (piece_text p)
pieces-flat (p ∷ q ∷ ps) = ap (λ (x : List ℕ). piece_text p ++ x) (pieces-flat (q ∷ ps))

pub numbers-flat : (byte : ℕ) (ns : List ℕ) → flat_map (λ n. byte ∷ decimal n) ns ≡ each_behind byte ns
numbers-flat byte [] = refl
numbers-flat byte (n ∷ ns) = ap (λ (x : List ℕ). byte ∷ (decimal n ++ x)) (numbers-flat byte ns)
