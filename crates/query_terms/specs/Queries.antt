-- What the reader of queries answers.
use Rattle.std.specs.Prelude.{◌≡◌, ℕ, List, map, Result, Ok, Err}
use Rattle.file_text.specs.Tokens.{bad_byte, long_id, open_comment}
use Rattle.rewriting.specs.Rules.{System}
use Rattle.term_core.specs.RuleView.{condition_view}
use Rattle.cops_names.specs.NamesView.{texts_of}
use Rattle.cops_read.specs.Counts.{most_of}
use Rattle.cops_read.specs.declared.errors.Count.{Count}
use Rattle.cops_read.specs.declared.errors.Count.TheVariants.{Rules, Conditions, Arity, Nodes, Variables, Symbols}
use Rattle.query_text.specs.Meaning.{too_many_conditions, too_deep, too_many_nodes, variable_with_arguments, unknown_name, too_many_variables, arity_differs}
use Rattle.query_text.specs.Query.{IsQuery, IsNoQuery, join_system, no_tokens, wrong_syntax, no_meaning}
use Rattle.cops_syntax.specs.declared.reader.TextError.{TextError}
use Rattle.cops_syntax.specs.declared.reader.TextError.TheVariants as text
use Rattle.query_trees.specs.declared.reader.NoQuery.{NoQuery}
use Rattle.query_terms.specs.declared.errors.MeaningError.{MeaningError}
use Rattle.query_terms.specs.declared.errors.MeaningError.TheVariants as meaning
use Rattle.query_terms.specs.declared.reader.Query.{Query}
use Rattle.query_terms.specs.declared.reader.QueryError.{QueryError}
use Rattle.query_terms.specs.declared.reader.QueryError.TheVariants.{JoinSystem, BadByte, IdTooLong, CommentNotClosed, Syntax, TooMany, TooDeep, VariableWithArguments, UnknownName}
use Rattle.query_terms.specs.declared.reader.QueryError.TheVariants.{ArityDiffers, NoMemory}

-- what the refusals of the parts are to the reader of queries
abbrev pub text_error : TextError NoQuery → QueryError
text_error (text.BadByte at) = BadByte at
text_error (text.IdTooLong at) = IdTooLong at
text_error (text.CommentNotClosed at) = CommentNotClosed at
text_error (text.Refused cause at) = Syntax at
text_error text.NoMemory = NoMemory

abbrev pub meaning_error : MeaningError → QueryError
meaning_error (meaning.TooManyConditions at) = TooMany Conditions (most_of Conditions) at
meaning_error (meaning.TooDeep at) = TooDeep at
meaning_error (meaning.TooManyNodes at) = TooMany Nodes (most_of Nodes) at
meaning_error (meaning.VariableWithArguments at) = VariableWithArguments at
meaning_error (meaning.UnknownName at) = UnknownName at
meaning_error (meaning.TooManyVariables at) = TooMany Variables (most_of Variables) at
meaning_error (meaning.ArityDiffers at) = ArityDiffers at
meaning_error meaning.NoMemory = NoMemory

-- there are too many such parts; a query has no others of which there is a greatest number
abbrev pub HasTooMany : System → List (List ℕ × ℕ) → List ℕ → Count → ℕ → Type 0
HasTooMany sys symbols bytes Rules at = ⊥
HasTooMany sys symbols bytes Conditions at = IsNoQuery sys symbols bytes (no_meaning too_many_conditions) at
HasTooMany sys symbols bytes Arity at = ⊥
HasTooMany sys symbols bytes Nodes at = IsNoQuery sys symbols bytes (no_meaning too_many_nodes) at
HasTooMany sys symbols bytes Variables at = IsNoQuery sys symbols bytes (no_meaning too_many_variables) at
HasTooMany sys symbols bytes Symbols at = ⊥

-- the text is no query, as told, or there was no memory
abbrev pub IsRefused : System → List (List ℕ × ℕ) → List ℕ → QueryError → Type 0
IsRefused sys symbols bytes (JoinSystem at) = IsNoQuery sys symbols bytes join_system at
IsRefused sys symbols bytes (BadByte at) = IsNoQuery sys symbols bytes (no_tokens bad_byte) at
IsRefused sys symbols bytes (IdTooLong at) = IsNoQuery sys symbols bytes (no_tokens long_id) at
IsRefused sys symbols bytes (CommentNotClosed at) = IsNoQuery sys symbols bytes (no_tokens open_comment) at
IsRefused sys symbols bytes (Syntax at) = IsNoQuery sys symbols bytes wrong_syntax at
IsRefused sys symbols bytes (TooMany what limit at) = HasTooMany sys symbols bytes what at × (limit ≡ most_of what)
IsRefused sys symbols bytes (TooDeep at) = IsNoQuery sys symbols bytes (no_meaning too_deep) at
IsRefused sys symbols bytes (VariableWithArguments at) = IsNoQuery sys symbols bytes (no_meaning variable_with_arguments) at
IsRefused sys symbols bytes (UnknownName at) = IsNoQuery sys symbols bytes (no_meaning unknown_name) at
IsRefused sys symbols bytes (ArityDiffers at) = IsNoQuery sys symbols bytes (no_meaning arity_differs) at
IsRefused sys symbols bytes NoMemory = Unit {0}

-- the query that the text is, or the one refusal
abbrev pub QueryAnswers : System → List (List ℕ × ℕ) → List ℕ → Result Query QueryError → Type 0
QueryAnswers sys symbols bytes (Ok q) = IsQuery sys symbols bytes (map condition_view q.conds.items) (texts_of q.names.items)
QueryAnswers sys symbols bytes (Err e) = IsRefused sys symbols bytes e
