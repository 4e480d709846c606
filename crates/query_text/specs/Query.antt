-- Which query of a system a text is, or why, and at which place, it is none.
use Rattle.std.specs.Prelude.{◌≡◌, ◌<◌, ◌≤◌, ℕ, List, length, Some}
use Rattle.file_text.specs.Tokens.{TokenCause, HasNoTokens}
use Rattle.rewriting.specs.Rules.{Condition, System}
use Rattle.query_text.specs.Grammar.{QueryTree}
use Rattle.query_text.specs.Texts.{IsQueryText, IsNoQueryText}
use Rattle.query_text.specs.Meaning.{QueryCause, refusal_of, IsMeantBy}

-- all symbols of the system are its file's own: it is not made of one whose conditions ask for a common reduct
abbrev pub HasOwnSymbols : System → Type 0
HasOwnSymbols sys = length sys.arities ≤ sys.own

-- Over a system, and the names of its symbols with their arities, the text is the query of these conditions, with these names of variables.
pub record IsQuery (sys : System) (symbols : List (List ℕ × ℕ)) (bytes : List ℕ) (cs : List Condition) (names : List (List ℕ)) : Type 0 where
  pub own : HasOwnSymbols sys
  pub tree : QueryTree
  pub spelled : IsQueryText bytes tree
  pub meant : IsMeantBy symbols tree cs names

-- The text spells a tree that means nothing, for this cause at this place.
pub record MeansNothing (symbols : List (List ℕ × ℕ)) (bytes : List ℕ) (cause : QueryCause) (at : ℕ) : Type 0 where
  pub tree : QueryTree
  pub spelled : IsQueryText bytes tree
  pub refused : refusal_of symbols tree ≡ Some (cause, at)

-- no text is a query of a system that has symbols that are not its file's own; else a text has no tokens, or they spell no query, or that means nothing
pub data Refusal : Type 0 where
  join_system : Refusal
  no_tokens : TokenCause → Refusal
  wrong_syntax : Refusal
  no_meaning : QueryCause → Refusal

-- The text is no query, for this cause at this place.
abbrev pub IsNoQuery : System → List (List ℕ × ℕ) → List ℕ → Refusal → ℕ → Type 0
IsNoQuery sys symbols bytes join_system at = (sys.own < length sys.arities) × (at ≡ 0)
IsNoQuery sys symbols bytes (no_tokens cause) at = HasOwnSymbols sys × HasNoTokens bytes cause at
IsNoQuery sys symbols bytes wrong_syntax at = HasOwnSymbols sys × IsNoQueryText bytes at
IsNoQuery sys symbols bytes (no_meaning cause) at = HasOwnSymbols sys × MeansNothing symbols bytes cause at
