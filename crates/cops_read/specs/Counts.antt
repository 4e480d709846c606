-- The parts of a file that are counted.
use Rattle.std.specs.Prelude.{ℕ}
use Rattle.cops_read.specs.Bounds.{most_rules, most_symbols, most_conditions, most_variables, most_arguments, most_nodes}
use Rattle.cops_read.specs.Refusals.{MeaningCause, too_many_rules, too_many_conditions, too_many_arguments, too_many_nodes, too_many_variables, too_many_symbols}
use Rattle.cops_read.specs.declared.errors.Count.{Count}
use Rattle.cops_read.specs.declared.errors.Count.TheVariants as count

-- the cause where there are too many parts of a kind, and the greatest number of them
abbrev pub cause_of_count : Count → MeaningCause
cause_of_count count.Rules = too_many_rules
cause_of_count count.Conditions = too_many_conditions
cause_of_count count.Arity = too_many_arguments
cause_of_count count.Nodes = too_many_nodes
cause_of_count count.Variables = too_many_variables
cause_of_count count.Symbols = too_many_symbols

abbrev pub most_of : Count → ℕ
most_of count.Rules = most_rules
most_of count.Conditions = most_conditions
most_of count.Arity = most_arguments
most_of count.Nodes = most_nodes
most_of count.Variables = most_variables
most_of count.Symbols = most_symbols
