-- Syntax trees of a file, before names have a meaning.
use Rattle.std.specs.Prelude.{ℕ, suc, Bool, true, false, List, [], ◌∷◌, ◌++◌, Option, None, Some}
use Rattle.std.specs.Option.{is_some}
use Rattle.file_text.specs.declared.ConditionType.{ConditionType}

-- an identifier, and the place of its first byte
pub record Name : Type 0 where
  pub at : ℕ
  pub text : List ℕ

-- an identifier alone, or one with a list in brackets, which may be empty
mutual
  pub data Phrase : Type 0 where
    word : Name → Phrase
    call : Name → Phrases → Phrase

  pub data Phrases : Type 0 where
    none : Phrases
    more : Phrase → Phrases → Phrases

-- the list with one more at the end
abbrev pub with_last : Phrases → Phrase → Phrases
with_last none u = more u none
with_last (more t ts) u = more t (with_last ts u)

-- how many phrases there are
abbrev pub count : Phrases → ℕ
count none = 0
count (more t ts) = suc (count ts)

pub record ConditionTree : Type 0 where
  pub left : Phrase
  pub right : Phrase

-- a bar at its place, and the conditions behind it, of which there is at least one
pub record Guard : Type 0 where
  pub at : ℕ
  pub first : ConditionTree
  pub others : List ConditionTree

pub record RuleTree : Type 0 where
  pub left : Phrase
  pub right : Phrase
  pub guard : Option Guard

abbrev pub guarded : Option Guard → List ConditionTree
guarded None = []
guarded (Some g) = g.first ∷ g.others

abbrev pub conditions_of : RuleTree → List ConditionTree
conditions_of r = guarded r.guard

-- the condition type if there is one, the identifiers of the variables' block, and the rules
pub record FileTree : Type 0 where
  pub condition_type : Option ConditionType
  pub variables : List Name
  pub rules : List RuleTree

abbrev pub has_type : FileTree → Bool
has_type file = is_some file.condition_type

-- an identifier of a term: whether brackets stand behind it, and how many arguments are in them
pub record Node : Type 0 where
  pub name : Name
  pub brackets : Bool
  pub arguments : ℕ

-- the identifiers of a term in the order of the text
abbrev mutual
  pub flat : Phrase → List Node
  flat (word f) = record { name = f; brackets = false; arguments = 0 } ∷ []
  flat (call f ts) = record { name = f; brackets = true; arguments = count ts } ∷ flat_all ts

  pub flat_all : Phrases → List Node
  flat_all none = []
  flat_all (more t ts) = flat t ++ flat_all ts
