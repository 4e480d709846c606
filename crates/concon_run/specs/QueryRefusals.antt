-- Why a text is no query of a system, and the text that says so.
use Rattle.std.specs.Prelude.{◌≤◌, ◌<◌, ℕ, List, length, Option, option_map, codes}
use Rattle.rewriting.specs.Rules.{System}
use Rattle.cops_names.specs.NameTable.{NameTable}
use Rattle.query_text.specs.Query.{IsNoQuery, Refusal}
use Rattle.query_terms.specs.declared.reader.QueryError as errors
use Rattle.run_parts.specs.Bytes.{most_query_bytes}
use Rattle.refusal_texts.specs.Queries.{query_cause_words, query_error_cause}
use Rattle.concon_run.specs.FileRefusals.{refused_line}

-- it is too long, or refused for a cause at a place
pub data QueryRefusal : Type 0 where
  long_query : QueryRefusal
  no_query_text : Refusal → ℕ → QueryRefusal

abbrev pub IsQueryRefused : System → NameTable → List ℕ → QueryRefusal → Type 0
IsQueryRefused sys names bytes long_query = most_query_bytes < length bytes
IsQueryRefused sys names bytes (no_query_text cause at) = (length bytes ≤ most_query_bytes) × IsNoQuery sys names.symbols bytes cause at

abbrev pub query_refused_line : List ℕ → QueryRefusal → List ℕ
query_refused_line name long_query = refused_line name most_query_bytes (codes "too long")
query_refused_line name (no_query_text cause at) = refused_line name at (query_cause_words cause)

abbrev pub query_refusal_of : errors.QueryError → Option QueryRefusal
query_refusal_of e = option_map (λ r. no_query_text r.0 r.1) (query_error_cause e)
