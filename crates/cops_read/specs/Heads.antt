-- What the reader of one identifier answers.
use Rattle.std.specs.Prelude.{◌≡◌, ◌<◌, ◌≤◌, ℕ, List, Option, Some, None, Result, Ok, Err, option_map, slice_get}
use Rattle.file_text.specs.Syntax.{Node}
use Rattle.cops_names.specs.NameTable.{number_of}
use Rattle.cops_names.specs.NameLists.{name_index, with_name}
use Rattle.cops_read.specs.Meaning.{with_symbol}
use Rattle.cops_read.specs.Uses.{Side, side_of, Use}
use Rattle.cops_read.specs.Refusals.{first_or}
use Rattle.cops_read.specs.Counts.{most_of}
use Rattle.cops_read.specs.Walks.{use_at}
use Rattle.cops_read.specs.declared.heads.NodePlace.{NodePlace}
use Rattle.cops_read.specs.declared.errors.Count.{Count}
use Rattle.cops_read.specs.declared.errors.ReadError.{ReadError}
use Rattle.cops_read.specs.declared.errors.ReadError.TheVariants.{TooMany}

abbrev pub side_at : NodePlace → Side
side_at p = side_of p.rule p.condition p.is_left

-- the use of an identifier that stands there
abbrev pub used_at : NodePlace → Node → Use
used_at p node = use_at (side_at p) p.depth p.argument p.before node

abbrev pub WithinAnswers : Count → ℕ → ℕ → Result (Unit {0}) ReadError → Type 0
WithinAnswers what number at (Ok _) = number ≤ most_of what
WithinAnswers what number at (Err e) = (most_of what < number) × (e ≡ TooMany what (most_of what) at)

-- What an error tells is a cause and its place.
module _ {C E : Type 0} (tells : E → Option (C × ℕ) → Type 0) where
  -- no cause, or the error tells it
  abbrev pub CauseAnswers : Option C → ℕ → Result (Unit {0}) E → Type 0
  CauseAnswers cause at (Ok _) = cause ≡ None
  CauseAnswers cause at (Err e) = tells e (first_or cause at None)

  module _ (variable_cause : List (List ℕ) → Use → Option C) where
    -- a variable: no cause, the names with it, and its number
    pub record IsVariableUsed (names : List (List ℕ)) (u : Use) (later : List (List ℕ)) (x : ℕ) : Type 0 where
      pub accepted : variable_cause names u ≡ None
      pub added : later ≡ with_name names u.spot.node.name.text
      pub number : name_index later u.spot.node.name.text ≡ Some x

    abbrev pub VariableAnswers : List (List ℕ) → Use → List (List ℕ) → Result ℕ E → Type 0
    VariableAnswers names u later (Ok x) = IsVariableUsed names u later x
    VariableAnswers names u later (Err e) = tells e (first_or (variable_cause names u) u.spot.node.name.at None)

  module _ (symbol_cause : List (List ℕ × ℕ) → Use → Option C) where
    -- a symbol: no cause, the table with it, its number, and its arity
    pub record IsSymbolUsed (table : List (List ℕ × ℕ)) (u : Use) (after : List (List ℕ × ℕ)) (f : ℕ) : Type 0 where
      pub accepted : symbol_cause table u ≡ None
      pub added : after ≡ with_symbol table u.spot.node.name.text u.spot.node.arguments
      pub number : number_of after u.spot.node.name.text ≡ Some f
      pub arity : option_map (λ s. s.1) (slice_get after f) ≡ Some u.spot.node.arguments

    abbrev pub SymbolAnswers : List (List ℕ × ℕ) → Use → List (List ℕ × ℕ) → Result ℕ E → Type 0
    SymbolAnswers table u after (Ok f) = IsSymbolUsed table u after f
    SymbolAnswers table u after (Err e) = tells e (first_or (symbol_cause table u) u.spot.node.name.at None)
