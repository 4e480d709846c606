-- Why a file spells no system, in words.
use Rattle.std.specs.Prelude.{ℕ, List, Option, Some, None, option_map, codes}
use Rattle.file_text.specs.Tokens.{bad_byte, long_id, open_comment}
use Rattle.file_text.specs.Refusals.{wrong_syntax, unknown_block, repeated_block, other_condition_type, missing_rules}
use Rattle.cops_read.specs.Refusals.{MeaningCause, conditions_without_type, variable_with_arguments, arity_differs, left_variable, too_deep, too_many_rules, too_many_conditions}
use Rattle.cops_read.specs.Refusals.{too_many_arguments, too_many_nodes, too_many_variables, too_many_symbols}
use Rattle.cops_read.specs.File.{FileCause, no_tokens, no_tree, no_meaning}
use Rattle.cops_read.specs.Counts.{cause_of_count}
use Rattle.cops_read.specs.declared.errors.ReadError.{ReadError}
use Rattle.cops_read.specs.declared.errors.ReadError.TheVariants.{BadByte, IdTooLong, CommentNotClosed, Syntax, UnknownBlock, RepeatedBlock, ConditionTypeOther, MissingRules}
use Rattle.cops_read.specs.declared.errors.ReadError.TheVariants.{ConditionsWithoutType, VariableWithArguments, ArityDiffers, LeftVariable, TooDeep, TooMany, NoMemory}

abbrev pub meaning_words : MeaningCause → List ℕ
meaning_words conditions_without_type = codes "conditions without type"
meaning_words variable_with_arguments = codes "variable with arguments"
meaning_words arity_differs = codes "arity differs"
meaning_words left_variable = codes "left side is a variable"
meaning_words too_deep = codes "too deep"
meaning_words too_many_rules = codes "too many rules"
meaning_words too_many_conditions = codes "too many conditions"
meaning_words too_many_arguments = codes "too many arguments"
meaning_words too_many_nodes = codes "too many nodes"
meaning_words too_many_variables = codes "too many variables"
meaning_words too_many_symbols = codes "too many symbols"

abbrev pub file_cause_words : FileCause → List ℕ
file_cause_words (no_tokens bad_byte) = codes "bad byte"
file_cause_words (no_tokens long_id) = codes "identifier too long"
file_cause_words (no_tokens open_comment) = codes "comment not closed"
file_cause_words (no_tree wrong_syntax) = codes "syntax"
file_cause_words (no_tree unknown_block) = codes "unknown block"
file_cause_words (no_tree repeated_block) = codes "repeated block"
file_cause_words (no_tree other_condition_type) = codes "condition type other"
file_cause_words (no_tree missing_rules) = codes "missing rules"
file_cause_words (no_meaning cause) = meaning_words cause

-- the cause and the place that the reader's error tells; want of memory is no refusal
abbrev pub file_error_cause : ReadError → Option (FileCause × ℕ)
file_error_cause (BadByte at) = Some (no_tokens bad_byte, at)
file_error_cause (IdTooLong at) = Some (no_tokens long_id, at)
file_error_cause (CommentNotClosed at) = Some (no_tokens open_comment, at)
file_error_cause (Syntax at) = Some (no_tree wrong_syntax, at)
file_error_cause (UnknownBlock at) = Some (no_tree unknown_block, at)
file_error_cause (RepeatedBlock at) = Some (no_tree repeated_block, at)
file_error_cause (ConditionTypeOther at) = Some (no_tree other_condition_type, at)
file_error_cause (MissingRules at) = Some (no_tree missing_rules, at)
file_error_cause (ConditionsWithoutType at) = Some (no_meaning conditions_without_type, at)
file_error_cause (VariableWithArguments at) = Some (no_meaning variable_with_arguments, at)
file_error_cause (ArityDiffers at) = Some (no_meaning arity_differs, at)
file_error_cause (LeftVariable at) = Some (no_meaning left_variable, at)
file_error_cause (TooDeep at) = Some (no_meaning too_deep, at)
file_error_cause (TooMany what limit at) = Some (no_meaning (cause_of_count what), at)
file_error_cause NoMemory = None

abbrev pub file_refusal_text : ReadError → Option (ℕ × List ℕ)
file_refusal_text e = option_map (λ r. (r.1, file_cause_words r.0)) (file_error_cause e)
