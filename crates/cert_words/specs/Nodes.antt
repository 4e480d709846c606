-- What the code reads of nodes.
use Rattle.std.specs.Prelude.{◌≡◌, ◌<◌, ◌≤◌, ◌+◌, ℕ, suc, List, [], ◌∷◌, ◌++◌, codes, Option, Some, None}
use Rattle.cops_names.specs.NameTable.{NameTable, number_of}
use Rattle.cert_grammar.specs.Prelude.{largest, name_of, in_range, Naming, Mark, word, symbol, is_node, term_marks, further_marks, value, Item}
use Rattle.rewriting.specs.Terms.{Terms, nil, cons, size}
use Rattle.cert_grammar.specs.WordMarks.{numeral}
use Rattle.cert_words.specs.declared.reading.Reading.{Reading}
use Rattle.cert_words.specs.declared.nodes.Node.{Node}
use Rattle.cert_words.specs.declared.nodes.Node.TheVariants.{Symbol, Variable}
use Rattle.cert_words.specs.Walks.{Reads}

abbrev pub NodeRead : NameTable → ℕ → Item → ℕ → ℕ → (List ℕ → List Item) → List Item → Reading → Reading → Node → Type 0
NodeRead names end i depth n new other s t (Symbol f) = Reads names end (i ∷ []) (λ u. symbol (u f) (is_node depth n) ∷ []) (new (name_of names f)) s t
NodeRead names end i depth n new other s t (Variable x) = Reads names end (i ∷ []) (λ u. word (codes "|" ++ numeral x) (in_range 1 0 (suc largest) x ∷ is_node depth n) ∷ []) other s t

abbrev pub IsFoundNode : NameTable → Node → Type 0
IsFoundNode names (Symbol f) = number_of names.symbols (name_of names f) ≡ Some f
IsFoundNode names (Variable x) = Unit {0}

-- the number that digits behind a byte spell, if it is not too great
abbrev pub IsBarNumber : List ℕ → Option ℕ → Type 0
IsBarNumber [] None = Unit {0}
IsBarNumber [] (Some x) = ⊥
IsBarNumber (b ∷ digits) None = largest < value digits
IsBarNumber (b ∷ digits) (Some x) = (x ≡ value digits) × (x ≤ largest)

-- arguments behind the bracket before them
abbrev pub inner_marks : Naming → ℕ → ℕ → Terms → List Mark
inner_marks u depth n nil = []
inner_marks u depth n (cons t ts) = term_marks u depth n t ++ further_marks u depth (n + size t) ts
