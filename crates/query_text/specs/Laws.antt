-- Laws of query texts.
use Rattle.std.specs.Prelude.{◌≡◌, ◌≤◌, ◌⊎◌, ℕ, List, map, length}
use Rattle.file_text.specs.declared.Token.{Token}
use Rattle.file_text.specs.Tokens.{Spells}
use Rattle.rewriting.specs.Prelude.{Condition, System, sides, variables_of, CountsFrom, Each}
use Rattle.certificates.specs.Prelude.{AreConditionsOver, DoConditionsFit}
use Rattle.cops_read.specs.Bounds.{most_conditions, most_variables}
use Rattle.cops_read.specs.Limits.{IsSmall}
use Rattle.query_text.specs.Grammar.{QueryTree}
use Rattle.query_text.specs.Texts.{IsQueryText, IsNoQueryText}
use Rattle.query_text.specs.Query.{IsQuery, Refusal, IsNoQuery}

-- a text has one tree at most, and one place at most where it has none, and never both
abbrev pub OneQueryTree : Type 0
OneQueryTree = (bytes : List ℕ) (tree other : QueryTree) → IsQueryText bytes tree → IsQueryText bytes other → tree ≡ other

abbrev pub OneSyntaxPlace : Type 0
OneSyntaxPlace = (bytes : List ℕ) (at place : ℕ) → IsNoQueryText bytes at → IsNoQueryText bytes place → at ≡ place

abbrev pub NeverTreeAndPlace : Type 0
NeverTreeAndPlace = (bytes : List ℕ) (tree : QueryTree) (at : ℕ) → IsQueryText bytes tree → IsNoQueryText bytes at → ⊥

-- a text of tokens has a tree, or a place where it has none
abbrev pub TreeOrPlace : Type 0
TreeOrPlace = (bytes : List ℕ) (ts : List Token) → Spells bytes ts → ((tree : QueryTree) × IsQueryText bytes tree) ⊎ ((at : ℕ) × IsNoQueryText bytes at)

-- a text is one query at most
abbrev pub OneQuery : Type 0
OneQuery = (sys : System) (symbols : List (List ℕ × ℕ)) (bytes : List ℕ) (cs ds : List Condition) (names others : List (List ℕ)) → IsQuery sys symbols bytes cs names
    → IsQuery sys symbols bytes ds others → (cs ≡ ds) × (names ≡ others)

-- two refusals of one text have one cause and one place
abbrev pub OneRefusal : Type 0
OneRefusal = (sys : System) (symbols : List (List ℕ × ℕ)) (bytes : List ℕ) (cause other : Refusal) (at place : ℕ) → IsNoQuery sys symbols bytes cause at
    → IsNoQuery sys symbols bytes other place → (cause ≡ other) × (at ≡ place)

-- a text that is a query is not refused
abbrev pub NeverQueryAndRefusal : Type 0
NeverQueryAndRefusal = (sys : System) (symbols : List (List ℕ × ℕ)) (bytes : List ℕ) (cs : List Condition) (names : List (List ℕ)) (cause : Refusal) (at : ℕ)
    → IsQuery sys symbols bytes cs names → IsNoQuery sys symbols bytes cause at → ⊥

-- a text is a query or is refused
abbrev pub QueryOrRefusal : Type 0
QueryOrRefusal =
    (sys : System) (symbols : List (List ℕ × ℕ)) (bytes : List ℕ) → ((cs : List Condition) × (names : List (List ℕ)) × IsQuery sys symbols bytes cs names)
    ⊎ ((cause : Refusal) × (at : ℕ) × IsNoQuery sys symbols bytes cause at)

-- the place of a refusal is in the text, or at its end
abbrev pub RefusalsAreWithin : Type 0
RefusalsAreWithin = (sys : System) (symbols : List (List ℕ × ℕ)) (bytes : List ℕ) (cause : Refusal) (at : ℕ) → IsNoQuery sys symbols bytes cause at → at ≤ length bytes

-- the conditions of a query are over the symbols with their arities, and small; there are not too many; their variables are numbered from 0 by first
-- occurrence, there are not too many, and each has a name
pub record IsWithinLimits (symbols : List (List ℕ × ℕ)) (cs : List Condition) (names : List (List ℕ)) : Type 0 where
  pub over : AreConditionsOver (map (λ s. s.1) symbols) cs
  pub small : Each IsSmall (sides cs)
  pub fit : DoConditionsFit cs
  pub few_conditions : length cs ≤ most_conditions
  pub numbered : CountsFrom 0 (variables_of (sides cs))
  pub named : length names ≡ length (variables_of (sides cs))
  pub few_variables : length names ≤ most_variables

abbrev pub QueriesAreWithinLimits : Type 0
QueriesAreWithinLimits = (sys : System) (symbols : List (List ℕ × ℕ)) (bytes : List ℕ) (cs : List Condition) (names : List (List ℕ)) → IsQuery sys symbols bytes cs names
    → IsWithinLimits symbols cs names
