use Rattle.std.proofs.Common.{◌∙◌, ap, List, ℕ, codes}
use Rattle.cops_names.specs.NameTable.{NameTable}
use Rattle.cops_read.specs.Meaning.{with_symbol}
use Rattle.generator.proofs.names.first_symbols.Goals as goal

abbrev put : List ℕ → ℕ → List (List ℕ × ℕ) → List (List ℕ × ℕ)
put name arity symbols = with_symbol symbols name arity

pub returns-clause-symbols : goal.returns-clause-symbols
returns-clause-symbols c =
    c.in_ok-add_plain-6.ensures.symbols
    ∙ ap (put (codes "f1") 1) (c.in_ok-add_plain-5.ensures.symbols
    ∙ ap (put (codes "false") 0) (c.in_ok-add_plain-4.ensures.symbols
    ∙ ap (put (codes "s") 1) (c.in_ok-add_plain-3.ensures.symbols
    ∙ ap (put (codes "true") 0) (c.in_ok-add_plain-2.ensures.symbols
    ∙ ap (put (codes "z") 0) (c.in_ok-add_plain.ensures.symbols
    ∙ ap (λ (n : NameTable). put (codes "p1") 1 n.symbols) c.new-names.ensures)))))
