-- Why a text is no query of a system, in words.
use Rattle.std.specs.Prelude.{ℕ, List, Option, Some, None, option_map, codes}
use Rattle.cops_read.specs.declared.errors.Count.{Count}
use Rattle.cops_read.specs.declared.errors.Count.TheVariants.{Rules, Conditions, Arity, Nodes, Variables, Symbols}
use Rattle.file_text.specs.Tokens.{bad_byte, long_id, open_comment}
use Rattle.query_text.specs.Meaning.{QueryCause, too_many_conditions, too_deep, too_many_nodes, variable_with_arguments, unknown_name, too_many_variables, arity_differs}
use Rattle.query_text.specs.Query.{Refusal, join_system, no_tokens, wrong_syntax, no_meaning}
use Rattle.query_terms.specs.declared.reader.QueryError as errors
use Rattle.query_terms.specs.declared.reader.QueryError.TheVariants as error

abbrev pub query_meaning_words : QueryCause → List ℕ
query_meaning_words too_many_conditions = codes "too many conditions"
query_meaning_words too_deep = codes "too deep"
query_meaning_words too_many_nodes = codes "too many nodes"
query_meaning_words variable_with_arguments = codes "variable with arguments"
query_meaning_words unknown_name = codes "unknown name"
query_meaning_words too_many_variables = codes "too many variables"
query_meaning_words arity_differs = codes "arity differs"

abbrev pub query_cause_words : Refusal → List ℕ
query_cause_words join_system = codes "join system"
query_cause_words (no_tokens bad_byte) = codes "bad byte"
query_cause_words (no_tokens long_id) = codes "identifier too long"
query_cause_words (no_tokens open_comment) = codes "comment not closed"
query_cause_words wrong_syntax = codes "syntax"
query_cause_words (no_meaning cause) = query_meaning_words cause

-- too many of these; of other parts a query has no greatest number
abbrev pub count_cause : Count → Option QueryCause
count_cause Rules = None
count_cause Conditions = Some too_many_conditions
count_cause Arity = None
count_cause Nodes = Some too_many_nodes
count_cause Variables = Some too_many_variables
count_cause Symbols = None

-- the cause and the place that the reader's error tells; want of memory is no refusal
abbrev pub query_error_cause : errors.QueryError → Option (Refusal × ℕ)
query_error_cause (error.JoinSystem at) = Some (join_system, at)
query_error_cause (error.BadByte at) = Some (no_tokens bad_byte, at)
query_error_cause (error.IdTooLong at) = Some (no_tokens long_id, at)
query_error_cause (error.CommentNotClosed at) = Some (no_tokens open_comment, at)
query_error_cause (error.Syntax at) = Some (wrong_syntax, at)
query_error_cause (error.TooMany what limit at) = option_map (λ cause. (no_meaning cause, at)) (count_cause what)
query_error_cause (error.TooDeep at) = Some (no_meaning too_deep, at)
query_error_cause (error.VariableWithArguments at) = Some (no_meaning variable_with_arguments, at)
query_error_cause (error.UnknownName at) = Some (no_meaning unknown_name, at)
query_error_cause (error.ArityDiffers at) = Some (no_meaning arity_differs, at)
query_error_cause error.NoMemory = None

abbrev pub query_refusal_text : errors.QueryError → Option (ℕ × List ℕ)
query_refusal_text e = option_map (λ r. (r.1, query_cause_words r.0)) (query_error_cause e)

-- the same of too many parts of a kind
abbrev pub too_many_text : Count → ℕ → Option (ℕ × List ℕ)
too_many_text what at = option_map (λ cause. (at, query_meaning_words cause)) (count_cause what)
