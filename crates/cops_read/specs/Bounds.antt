-- How many parts a file may have, and how deep its terms may be.
use Rattle.std.specs.Prelude.{ℕ}
use Rattle.cops_read.specs.declared.limits.TheConstants.{MOST_RULES, MOST_SYMBOLS, MOST_CONDITIONS, MOST_VARIABLES, MOST_ARGUMENTS, MOST_NODES, MOST_DEPTH}

-- of a file
abbrev pub most_rules : ℕ
most_rules = MOST_RULES

abbrev pub most_symbols : ℕ
most_symbols = MOST_SYMBOLS

-- of a rule
abbrev pub most_conditions : ℕ
most_conditions = MOST_CONDITIONS

abbrev pub most_variables : ℕ
most_variables = MOST_VARIABLES

-- of a symbol
abbrev pub most_arguments : ℕ
most_arguments = MOST_ARGUMENTS

-- of a term
abbrev pub most_nodes : ℕ
most_nodes = MOST_NODES

abbrev pub most_levels : ℕ
most_levels = MOST_DEPTH
