-- Which system, with which names, a text spells, or why it spells none.
use Rattle.std.specs.Prelude.{◌≡◌, ◌⊎◌, ℕ, Bool, true, false, ◌&&◌, ◌||◌, List, [], ◌∷◌, map, length, Option, None, Some}
use Rattle.std.specs.Option.{is_some}
use Rattle.file_text.specs.declared.ConditionType.{ConditionType}
use Rattle.file_text.specs.declared.ConditionType.TheVariants.{Oriented, Join}
use Rattle.file_text.specs.Syntax.{RuleTree, FileTree}
use Rattle.file_text.specs.Tokens.{TokenCause, HasNoTokens}
use Rattle.file_text.specs.Refusals.{SyntaxCause}
use Rattle.file_text.specs.Texts.{IsText, IsNoText}
use Rattle.rewriting.specs.Rules.{System}
use Rattle.cops_names.specs.NameTable.{NameTable}
use Rattle.join_systems.specs.Joined.{joined}
use Rattle.join_names.specs.Fresh.{all_names, IsFresh, with_join_names}
use Rattle.cops_read.specs.Meaning.{variables_of, rule_variables, with_rule_symbols, AreRulesOf}
use Rattle.cops_read.specs.Refusals.{MeaningCause, refusal_of}

-- The rules of the tree are those of the system, with these names, and nothing in it is refused.
pub record IsSystemOf (file : FileTree) (sys : System) (names : NameTable) : Type 0 where
  pub accepted : refusal_of file ≡ None
  pub symbols : names.symbols ≡ with_rule_symbols (variables_of file) [] file.rules
  pub arities : sys.arities ≡ map (λ s. s.1) names.symbols
  pub own : sys.own ≡ length sys.arities
  pub variables : names.variables ≡ map (rule_variables (variables_of file)) file.rules
  pub rules : AreRulesOf (variables_of file) names.symbols file.rules sys.rules

-- some rule has a condition
abbrev pub have_conditions : List RuleTree → Bool
have_conditions [] = false
have_conditions (r ∷ rs) = is_some r.guard || have_conditions rs

-- the condition type is that of common reducts
abbrev pub is_join : Option ConditionType → Bool
is_join None = false
is_join (Some Oriented) = false
is_join (Some Join) = true

-- there are conditions, and they ask for common reducts
abbrev pub asks_joins : FileTree → Bool
asks_joins file = is_join file.condition_type && have_conditions file.rules

-- The system is the oriented one of the tree's rules; behind their names stand those of the two symbols more and of the one rule more.
pub record IsJoinedFile (file : FileTree) (sys : System) (names : NameTable) : Type 0 where
  pub rules : System
  pub table : NameTable
  pub number : ℕ
  pub listed : IsSystemOf file rules table
  pub fresh : IsFresh (all_names table) number
  pub system : sys ≡ joined rules
  pub named : names ≡ with_join_names table number

-- The tree means the system with these names: the oriented one where it asks for common reducts, else that of its rules.
abbrev pub IsMeant : FileTree → System → NameTable → Type 0
IsMeant file sys names = ((asks_joins file ≡ false) × IsSystemOf file sys names) ⊎ ((asks_joins file ≡ true) × IsJoinedFile file sys names)

-- The text spells a tree that means the system with these names.
pub record IsFile (bytes : List ℕ) (sys : System) (names : NameTable) : Type 0 where
  pub tree : FileTree
  pub spelled : IsText bytes tree
  pub meant : IsMeant tree sys names

-- The text spells a tree that means no system, for this cause at this place.
pub record MeansNothing (bytes : List ℕ) (cause : MeaningCause) (at : ℕ) : Type 0 where
  pub tree : FileTree
  pub spelled : IsText bytes tree
  pub refused : refusal_of tree ≡ Some (cause, at)

-- A text has no tokens, or they spell no tree, or that means no system.
pub data FileCause : Type 0 where
  no_tokens : TokenCause → FileCause
  no_tree : SyntaxCause → FileCause
  no_meaning : MeaningCause → FileCause

-- The text spells no system, for this cause at this place.
abbrev pub IsNoFile : List ℕ → FileCause → ℕ → Type 0
IsNoFile bytes (no_tokens cause) at = HasNoTokens bytes cause at
IsNoFile bytes (no_tree cause) at = IsNoText bytes cause at
IsNoFile bytes (no_meaning cause) at = MeansNothing bytes cause at
