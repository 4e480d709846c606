-- What a reader of a file answers, and laws of files.
use Rattle.std.specs.Prelude.{◌≡◌, ◌≤◌, ◌⊎◌, ℕ, List, length, map, Result, Ok, Err}
use Rattle.rewriting.specs.Prelude.{System, IsSystem}
use Rattle.join_systems.specs.FileRelation.{IsFromFile}
use Rattle.file_text.specs.Syntax.{has_type}
use Rattle.file_text.specs.Tokens.{bad_byte, long_id, open_comment}
use Rattle.file_text.specs.Refusals.{unknown_block, repeated_block, other_condition_type, wrong_syntax, missing_rules}
use Rattle.cops_names.specs.NameTable.{NameTable}
use Rattle.cops_read.specs.Limits.{KeepsLimits}
use Rattle.cops_read.specs.File.{IsFile, FileCause, no_tokens, no_tree, no_meaning, IsNoFile}
use Rattle.cops_read.specs.Refusals.{conditions_without_type, too_deep, variable_with_arguments, left_variable, arity_differs}
pub use Rattle.cops_read.specs.Counts.{cause_of_count, most_of}
use Rattle.cops_read.specs.declared.errors.ReadError.{ReadError}
use Rattle.cops_read.specs.declared.errors.ReadError.TheVariants.{BadByte, IdTooLong, CommentNotClosed, Syntax, UnknownBlock, RepeatedBlock, ConditionTypeOther, MissingRules}
use Rattle.cops_read.specs.declared.errors.ReadError.TheVariants.{ConditionsWithoutType, VariableWithArguments, ArityDiffers, LeftVariable, TooDeep, TooMany, NoMemory}

-- the error tells why the text spells no system, and where; memory may be refused at any text
abbrev pub IsRefusedFor : List ℕ → ReadError → Type 0
IsRefusedFor bytes (BadByte at) = IsNoFile bytes (no_tokens bad_byte) at
IsRefusedFor bytes (IdTooLong at) = IsNoFile bytes (no_tokens long_id) at
IsRefusedFor bytes (CommentNotClosed at) = IsNoFile bytes (no_tokens open_comment) at
IsRefusedFor bytes (Syntax at) = IsNoFile bytes (no_tree wrong_syntax) at
IsRefusedFor bytes (UnknownBlock at) = IsNoFile bytes (no_tree unknown_block) at
IsRefusedFor bytes (RepeatedBlock at) = IsNoFile bytes (no_tree repeated_block) at
IsRefusedFor bytes (ConditionTypeOther at) = IsNoFile bytes (no_tree other_condition_type) at
IsRefusedFor bytes (MissingRules at) = IsNoFile bytes (no_tree missing_rules) at
IsRefusedFor bytes (ConditionsWithoutType at) = IsNoFile bytes (no_meaning conditions_without_type) at
IsRefusedFor bytes (VariableWithArguments at) = IsNoFile bytes (no_meaning variable_with_arguments) at
IsRefusedFor bytes (ArityDiffers at) = IsNoFile bytes (no_meaning arity_differs) at
IsRefusedFor bytes (LeftVariable at) = IsNoFile bytes (no_meaning left_variable) at
IsRefusedFor bytes (TooDeep at) = IsNoFile bytes (no_meaning too_deep) at
IsRefusedFor bytes (TooMany what limit at) = IsNoFile bytes (no_meaning (cause_of_count what)) at × (limit ≡ most_of what)
IsRefusedFor bytes NoMemory = Unit {0}

-- the system and the names that the text spells, or the one refusal
abbrev pub ReadAnswers : List ℕ → Result (System × NameTable) ReadError → Type 0
ReadAnswers bytes (Ok found) = IsFile bytes found.0 found.1
ReadAnswers bytes (Err e) = IsRefusedFor bytes e

-- a text spells one system, with one table of names
abbrev pub OneSystem : Type 0
OneSystem = (bytes : List ℕ) (sys other : System) (names others : NameTable) → IsFile bytes sys names → IsFile bytes other others → (sys ≡ other) × (names ≡ others)

-- what a text spells is a system
abbrev pub SystemsAreSound : Type 0
SystemsAreSound = (bytes : List ℕ) (sys : System) (names : NameTable) → IsFile bytes sys names → IsSystem sys

-- and what the file has keeps the limits
abbrev pub SystemsAreWithinLimits : Type 0
SystemsAreWithinLimits = (bytes : List ℕ) (sys : System) (names : NameTable) (file : IsFile bytes sys names) → KeepsLimits (has_type file.tree) sys names

-- the names are those of its symbols, with their arities
abbrev pub SymbolsAreNamed : Type 0
SymbolsAreNamed = (bytes : List ℕ) (sys : System) (names : NameTable) → IsFile bytes sys names → sys.arities ≡ map (λ s. s.1) names.symbols

-- it is that of join rules, or all its symbols are the file's
abbrev pub SystemsTellTheirFile : Type 0
SystemsTellTheirFile = (bytes : List ℕ) (sys : System) (names : NameTable) → IsFile bytes sys names → IsFromFile sys

-- two refusals of one text have one cause and one place
abbrev pub OneRefusal : Type 0
OneRefusal = (bytes : List ℕ) (cause other : FileCause) (at place : ℕ) → IsNoFile bytes cause at → IsNoFile bytes other place → (cause ≡ other) × (at ≡ place)

-- the place of a refusal is in the text, or at its end
abbrev pub RefusalsAreWithin : Type 0
RefusalsAreWithin = (bytes : List ℕ) (cause : FileCause) (at : ℕ) → IsNoFile bytes cause at → at ≤ length bytes

-- a text that spells a system is not refused
abbrev pub NeverSystemAndRefusal : Type 0
NeverSystemAndRefusal = (bytes : List ℕ) (sys : System) (names : NameTable) (cause : FileCause) (at : ℕ) → IsFile bytes sys names → IsNoFile bytes cause at → ⊥

-- a text spells a system or is refused
abbrev pub SystemOrRefusal : Type 0
SystemOrRefusal = (bytes : List ℕ) → ((sys : System) × (names : NameTable) × IsFile bytes sys names) ⊎ ((cause : FileCause) × (at : ℕ) × IsNoFile bytes cause at)
