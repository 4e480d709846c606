-- What is written of a problem.
use Rattle.std.specs.Prelude.{◌≡◌, ◌⊎◌, ℕ, Bool, true, false, List, ◌++◌, drop, codes, Option, Some, None}
use Rattle.file_text.specs.declared.ConditionType.{ConditionType}
use Rattle.file_text.specs.declared.ConditionType.TheVariants as kind
use Rattle.file_text.specs.Syntax.{FileTree}
use Rattle.rewriting.specs.Rules.{System}
use Rattle.join_systems.specs.Joined.{joined}
use Rattle.cops_names.specs.NameTable.{NameTable}
use Rattle.cops_read.specs.File.{IsSystemOf, IsFile}
use Rattle.cops_write.specs.Text.{system_text}
use Rattle.ari_text.specs.declared.heads.Format.{Format}
use Rattle.ari_text.specs.declared.heads.Format.TheVariants.{Plain, Oriented, Join}
use Rattle.ari_text.specs.Signs.{Sign}
use Rattle.ari_text.specs.Spelling.{Spell}
use Rattle.ari_text.specs.Grammar.{IsProblem}
use Rattle.ari_text.specs.Functions.{AreUndeclared, AreDeclared}

-- whether the text has the condition type of oriented rules
pub record IsTyped (text : List ℕ) (typed : Bool) : Type 0 where
  pub front : typed ≡ true → text ≡ codes "(CONDITIONTYPE ORIENTED)\n" ++ drop 25 text
  pub other : typed ≡ false → (rest : List ℕ) → text ≡ codes "(CONDITIONTYPE ORIENTED)\n" ++ rest → ⊥

-- the text is one of the rules' join system
abbrev pub IsJoinFile : System → List ℕ → Type 0
IsJoinFile sys text = (names : NameTable) × IsFile text (joined sys) names

-- the condition type of join rules stands for that of oriented ones, and so the text is one of their join system; a text without it is the same
abbrev pub IsRetyped : System → List ℕ → List ℕ → Type 0
IsRetyped sys old new =
    ((rest : List ℕ) × (old ≡ codes "(CONDITIONTYPE ORIENTED)\n" ++ rest) × (new ≡ codes "(CONDITIONTYPE JOIN)\n" ++ rest) × IsJoinFile sys new)
    ⊎ (((rest : List ℕ) → old ≡ codes "(CONDITIONTYPE ORIENTED)\n" ++ rest → ⊥) × (new ≡ old))

-- the text of a system whose conditions are those of the format
abbrev pub IsTextOf : Format → NameTable → System → List ℕ → Type 0
IsTextOf Plain names sys text = text ≡ system_text names sys
IsTextOf Oriented names sys text = text ≡ system_text names sys
IsTextOf Join names sys text = IsRetyped sys (system_text names sys) text

-- the condition type of a tree whose rules are read as oriented ones
abbrev pub type_of : Format → Option ConditionType
type_of Plain = None
type_of Oriented = Some kind.Oriented
type_of Join = Some kind.Oriented

-- The bytes spell a problem, whose variables are the names that it does not declare, and whose tree means the system with these names; the text is that system's, with the condition type of the
-- format, and a file.
pub record IsWritten (bytes text : List ℕ) : Type 0 where
  pub words : List Sign
  pub spelled : Spell bytes words
  pub format : Format
  pub functions : List (List ℕ × ℕ)
  pub tree : FileTree
  pub problem : IsProblem words format functions tree.rules
  pub typed : tree.condition_type ≡ type_of format
  pub system : System
  pub names : NameTable
  pub meant : IsSystemOf tree system names
  pub variables : AreUndeclared functions tree.variables
  pub symbols : AreDeclared functions names.symbols
  pub is_text : IsTextOf format names system text
  pub read : (sys : System) × (table : NameTable) × IsFile text sys table
