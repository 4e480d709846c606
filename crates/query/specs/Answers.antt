-- What is answered to a text.
use Rattle.std.specs.Prelude.{ℕ, ◌≡◌, List, map, Result, Ok, Err}
use Rattle.rewriting.specs.Rules.{Condition, System}
use Rattle.term_core.specs.RuleView.{condition_view}
use Rattle.cc_count.specs.Counts.{Counts}
use Rattle.cops_names.specs.NamesView.{texts_of}
use Rattle.query_text.specs.Query.{IsQuery}
use Rattle.query_terms.specs.Queries.{IsRefused}
use Rattle.query_terms.specs.declared.reader.Query.{Query}
use Rattle.query_terms.specs.declared.reader.QueryError.{QueryError}
use Rattle.query_terms.specs.declared.reader.QueryError.TheVariants.{NoMemory}
use Rattle.query_search.specs.Answers.{SearchAnswers, IsTrueReply, IsEmptyReply, IsAnswer, HasAnswerWithin}
use Rattle.query_search.specs.declared.reply.Reply.{Reply}

-- the conditions of a query
abbrev pub conditions_of : Query → List Condition
conditions_of q = map condition_view q.conds.items

-- The text is this query, whose space was searched; what the reply says is true, and where it says nothing, nothing answers.
pub record IsAnswered (sys : System) (symbols : List (List ℕ × ℕ)) (bytes : List ℕ) (q : Query) (r : Reply) (before after : Counts) : Type 0 where
  pub query : IsQuery sys symbols bytes (conditions_of q) (texts_of q.names.items)
  pub searched : SearchAnswers sys (conditions_of q) before after (Ok r)
  pub says : IsTrueReply sys (conditions_of q) (Ok r)
  pub empty : IsEmptyReply sys (conditions_of q) (Ok r)

-- or it is refused, or there was no memory
abbrev pub AskAnswers : System → List (List ℕ × ℕ) → List ℕ → Counts → Counts → Result (Query × Reply) QueryError → Type 0
AskAnswers sys symbols bytes before after (Ok a) = IsAnswered sys symbols bytes a.0 a.1 before after
AskAnswers sys symbols bytes before after (Err e) = IsRefused sys symbols bytes e

-- the text is a query to which so many units find an answer
pub record IsAnswerable (sys : System) (symbols : List (List ℕ × ℕ)) (bytes : List ℕ) (left : ℕ) : Type 0 where
  pub conditions : List Condition
  pub names : List (List ℕ)
  pub query : IsQuery sys symbols bytes conditions names
  pub within : HasAnswerWithin sys conditions left

-- an answer, or want of memory
abbrev pub IsAnswerTo : Result (Query × Reply) QueryError → Type 0
IsAnswerTo (Ok a) = IsAnswer (Ok a.1)
IsAnswerTo (Err e) = e ≡ NoMemory
