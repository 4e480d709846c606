-- What the parts of a query answer.
use Rattle.std.specs.Prelude.{◌≡◌, ℕ, List, Option, Some, None, IfSome, option_map, Result, Ok, Err}
use Rattle.rewriting.specs.Rules.{Condition, System}
use Rattle.cops_names.specs.NameTable.{NameTable}
use Rattle.cops_names.specs.NamesView.{texts_of}
use Rattle.first_found.specs.Spaces.{Ending, IsDearer}
use Rattle.first_found.specs.Spaces as ending
use Rattle.cc_io.specs.declared.shelf.ReadAllError.TheVariants as reading
use Rattle.query.specs.Answers.{conditions_of}
use Rattle.query_space.specs.Items.{QueryAnswer}
use Rattle.query_space.specs.Space.{query_space}
use Rattle.query_space.specs.Laws.{SaysTrue}
use Rattle.query_search.specs.Answers.{reply_view}
use Rattle.query_search.specs.declared.reply.Reply.{Reply}
use Rattle.query_terms.specs.Queries.{IsRefused}
use Rattle.query_terms.specs.declared.reader.Query.{Query}
use Rattle.query_terms.specs.declared.reader.QueryError.{QueryError}
use Rattle.query_text.specs.Query as text
use Rattle.run_parts.specs.Bytes.{Bytes}
use Rattle.concon_run.specs.Files.{no_system_answer}
use Rattle.concon_run.specs.QueryRefusals.{long_query, query_refusal_of}
use Rattle.concon_run.specs.Query.{QueryOutcome, bad_file, bad_query, answer_found, over_budget, exhausted, SpellsQuery, IsRefusedQuery, IsFirstAnswer, HoldsNoAnswer, QueryReply}
use Rattle.concon_run.specs.Query.{queried, file_unread, query_unread}
use Rattle.concon_run.specs.declared.queries.NoReply.{NoReply}
use Rattle.concon_run.specs.declared.queries.NoReply.TheVariants as why
use Rattle.concon_run.specs.declared.queries.Queried.{Queried}

-- the first good answer, which says what is true; that none is good; that the budget is too small
abbrev pub EndsWith : System → List Condition → ℕ → Ending QueryAnswer → Type 0
EndsWith sys cs budget (ending.found a) = IsFirstAnswer sys cs a × SaysTrue sys cs a
EndsWith sys cs budget ending.nothing = HoldsNoAnswer sys cs
EndsWith sys cs budget ending.spent = IsDearer (query_space sys cs) budget

-- of these bytes: they are a query, and its search ends so; or they are refused
abbrev pub BytesReply : System → NameTable → List ℕ → ℕ → Result (Query × Reply) QueryError → Type 0
BytesReply sys names bytes budget (Ok a) =
    text.IsQuery sys names.symbols bytes (conditions_of a.0) (texts_of a.0.names.items) × EndsWith sys (conditions_of a.0) budget (reply_view a.1)
BytesReply sys names bytes budget (Err e) = IsRefused sys names.symbols bytes e

-- the same of the text of a query
abbrev pub QueryReplies : Bytes → Type 0 → System → NameTable → ℕ → Result Queried NoReply → Type 0
QueryReplies query failed sys names budget (Ok q) =
    SpellsQuery query sys q.names (conditions_of q.query) (texts_of q.query.names.items) × EndsWith sys (conditions_of q.query) budget (reply_view q.reply) × (q.names ≡ names)
QueryReplies query failed sys names budget (Err (why.QueryUnread reading.ReadFault)) = failed
QueryReplies query failed sys names budget (Err (why.QueryUnread (reading.TooLong n))) = IsRefusedQuery query sys names long_query
QueryReplies query failed sys names budget (Err (why.QueryUnread reading.NoMemory)) = Unit {0}
QueryReplies query failed sys names budget (Err (why.QueryRefused e)) = IfSome (query_refusal_of e) (IsRefusedQuery query sys names)
QueryReplies query failed sys names budget (Err (why.NoSystem e)) = ⊥

-- how the search ended, with the names
abbrev pub ending_outcome : NameTable → List (List ℕ) → Ending QueryAnswer → QueryOutcome
ending_outcome names vs (ending.found a) = answer_found names vs a
ending_outcome names vs ending.nothing = exhausted
ending_outcome names vs ending.spent = over_budget

-- what is answered; for want of memory nothing
abbrev pub query_reply : Result Queried NoReply → Option QueryReply
query_reply (Ok q) = Some (queried (ending_outcome q.names (texts_of q.query.names.items) (reply_view q.reply)))
query_reply (Err (why.NoSystem e)) = no_system_answer file_unread (λ r. queried (bad_file r)) e
query_reply (Err (why.QueryUnread reading.ReadFault)) = Some query_unread
query_reply (Err (why.QueryUnread (reading.TooLong n))) = Some (queried (bad_query long_query))
query_reply (Err (why.QueryUnread reading.NoMemory)) = None
query_reply (Err (why.QueryRefused e)) = option_map (λ r. queried (bad_query r)) (query_refusal_of e)
