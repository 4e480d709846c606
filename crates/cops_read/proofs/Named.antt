-- What a tree means has the arities of its names.
use Rattle.std.proofs.Common.{◌≡◌, inl, inr, ℕ, List, [], ◌∷◌, ◌++◌, map, sym, ap, ◌∙◌}
use Rattle.std.proofs.lemmas.List.{map-append}
use Rattle.rewriting.specs.Rules.{System}
use Rattle.file_text.specs.Syntax.{FileTree}
use Rattle.cops_names.specs.NameTable.{NameTable}
use Rattle.join_names.specs.Fresh.{join_name, true_name}
use Rattle.cops_read.specs.File.{IsJoinedFile, IsMeant}

-- the symbols are those of the names
joined_arities : (file : FileTree) (sys : System) (names : NameTable) → IsJoinedFile file sys names → sys.arities ≡ map (λ s. s.1) names.symbols
joined_arities file sys names h =
    let arity : List ℕ × ℕ → ℕ = λ s. s.1 in
    let more = (join_name h.number, 2) ∷ (true_name h.number, 0) ∷ [] in
    let of_system : sys.arities ≡ h.rules.arities ++ 2 ∷ 0 ∷ [] = ap (λ (s : System). s.arities) h.system in
    let of_rules : h.rules.arities ++ 2 ∷ 0 ∷ [] ≡ map arity h.table.symbols ++ 2 ∷ 0 ∷ [] = ap (λ (l : List ℕ). l ++ 2 ∷ 0 ∷ []) h.listed.arities in
    let of_both : map arity (h.table.symbols ++ more) ≡ map arity h.table.symbols ++ 2 ∷ 0 ∷ [] = map-append arity h.table.symbols more in
    let of_names : names.symbols ≡ h.table.symbols ++ more = ap (λ (n : NameTable). n.symbols) h.named in
    of_system ∙ of_rules ∙ sym of_both ∙ sym (ap (map arity) of_names)

pub meant_arities : (file : FileTree) (sys : System) (names : NameTable) → IsMeant file sys names → sys.arities ≡ map (λ s. s.1) names.symbols
meant_arities file sys names (inl (a, h)) = h.arities
meant_arities file sys names (inr (a, h)) = joined_arities file sys names h
