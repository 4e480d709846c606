-- Why, and at which place, the syntax tree of a file means no system.
use Rattle.std.specs.Prelude.{◌==◌, ◌&&◌, ℕ, Bool, not, nat_lt, nat_le, if◌then◌else◌, List, [], ◌∷◌, ◌++◌, length, Option, Some, None, option_map, slice_get}
use Rattle.std.specs.Option.{option_or}
use Rattle.file_text.specs.Syntax.{FileTree, has_type}
use Rattle.cops_names.specs.NameTable.{number_of}
use Rattle.cops_read.specs.Bounds.{most_rules, most_symbols, most_conditions, most_variables, most_arguments, most_nodes, most_levels}
use Rattle.cops_names.specs.NameLists.{is_among, with_name}
use Rattle.cops_read.specs.Meaning.{variables_of, with_symbol}
use Rattle.cops_read.specs.Uses.{Use, Event, use_of, bar_at, place, events}

pub data MeaningCause : Type 0 where
  too_many_rules : MeaningCause
  too_many_conditions : MeaningCause
  too_many_arguments : MeaningCause
  conditions_without_type : MeaningCause
  too_deep : MeaningCause
  too_many_nodes : MeaningCause
  variable_with_arguments : MeaningCause
  left_variable : MeaningCause
  too_many_variables : MeaningCause
  too_many_symbols : MeaningCause
  arity_differs : MeaningCause

-- the limits on the place of an identifier: on rules, conditions, arguments, the depth and the size of a term
abbrev pub limit_cause : Use → Option MeaningCause
limit_cause u =
    if nat_lt most_rules u.side.rule then Some too_many_rules else
    if nat_lt most_conditions u.side.condition then Some too_many_conditions else
    if nat_lt most_arguments u.spot.argument then Some too_many_arguments else
    if nat_lt most_levels u.spot.depth then Some too_deep else
    if nat_lt most_nodes u.number then Some too_many_nodes else None

-- a variable has no brackets, is no left side, and is not one too many in its rule
abbrev pub variable_cause : List (List ℕ) → Use → Option MeaningCause
variable_cause names u =
    if u.spot.node.brackets then Some variable_with_arguments else
    if u.side.is_left && (u.spot.depth == 1) then Some left_variable else
    if not (is_among names u.spot.node.name.text) && nat_le most_variables (length names) then Some too_many_variables else None

-- a symbol is not one too many, and has as many arguments as at its first use
abbrev pub known_symbol_cause : List (List ℕ × ℕ) → Use → Option ℕ → Option MeaningCause
known_symbol_cause table u None = if nat_le most_symbols (length table) then Some too_many_symbols else None
known_symbol_cause table u (Some n) = if n == u.spot.node.arguments then None else Some arity_differs

abbrev pub arity_in : List (List ℕ × ℕ) → Option ℕ → Option ℕ
arity_in table None = None
arity_in table (Some f) = option_map (λ s. s.1) (slice_get table f)

abbrev pub symbol_cause : List (List ℕ × ℕ) → Use → Option MeaningCause
symbol_cause table u = known_symbol_cause table u (arity_in table (number_of table u.spot.node.name.text))

-- the cause with its place, or else the other
abbrev pub first_or : {C : Type 0} → Option C → ℕ → Option (C × ℕ) → Option (C × ℕ)
first_or (Some cause) at others = Some (cause, at)
first_or None at others = others

-- Of the identifiers, those of the variables' block are variables, all others symbols.
module _ (block : List (List ℕ)) where
  -- the table of symbols, and behind it those that it lacks, with their numbers of arguments at first use
  abbrev pub symbols_used : List (List ℕ × ℕ) → List Event → List (List ℕ × ℕ)
  symbols_used table [] = table
  symbols_used table (bar_at at ∷ es) = symbols_used table es
  symbols_used table (use_of u ∷ es) = symbols_used (if is_among block u.spot.node.name.text then table else with_symbol table u.spot.node.name.text u.spot.node.arguments) es

  -- the names, and behind them the variables of a rule that they lack
  abbrev pub variables_used : ℕ → List (List ℕ) → List Event → List (List ℕ)
  variables_used rule names [] = names
  variables_used rule names (bar_at at ∷ es) = variables_used rule names es
  variables_used rule names (use_of u ∷ es) =
      variables_used rule (if (u.side.rule == rule) && is_among block u.spot.node.name.text then with_name names u.spot.node.name.text else names) es

  -- the first cause at an identifier, where these symbols, and these variables of its rule, were used before it
  abbrev pub cause_at : List (List ℕ × ℕ) → List (List ℕ) → Use → Option MeaningCause
  cause_at table names u = option_or (limit_cause u) (if is_among block u.spot.node.name.text then variable_cause names u else symbol_cause table u)

  abbrev pub use_cause : List Event → Use → Option MeaningCause
  use_cause front u = cause_at (symbols_used [] front) (variables_used u.side.rule [] front) u

  -- conditions need a condition type
  abbrev pub event_cause : Bool → List Event → Event → Option MeaningCause
  event_cause typed front (use_of u) = use_cause front u
  event_cause typed front (bar_at at) = if typed then None else Some conditions_without_type

  -- the first event that has a cause, and its place
  abbrev pub first_refusal : Bool → List Event → List Event → Option (MeaningCause × ℕ)
  first_refusal typed front [] = None
  first_refusal typed front (e ∷ es) = first_or (event_cause typed front e) (place e) (first_refusal typed (front ++ e ∷ []) es)

-- the one refusal of a file, if there is one
abbrev pub refusal_of : FileTree → Option (MeaningCause × ℕ)
refusal_of file = first_refusal (variables_of file) (has_type file) [] (events file)
