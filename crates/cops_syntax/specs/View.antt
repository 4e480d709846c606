-- The syntax trees that the program's types stand for: a term is the list of its identifiers.
use Rattle.std.specs.Prelude.{◌≡◌, List, [], ◌∷◌, map, option_map}
use Rattle.file_text.specs.Syntax as syntax
use Rattle.file_text.specs.Syntax.{flat, conditions_of}
use Rattle.cops_syntax.specs.declared.tree.Name.{Name}
use Rattle.cops_syntax.specs.declared.tree.Node.{Node}
use Rattle.cops_syntax.specs.declared.tree.CondText.{CondText}
use Rattle.cops_syntax.specs.declared.tree.RuleText.{RuleText}
use Rattle.cops_syntax.specs.declared.tree.FileText.{FileText}

abbrev pub name_view : Name → syntax.Name
name_view n = record { at = n.at; text = n.text.now }

abbrev pub node_view : Node → syntax.Node
node_view n = record { name = name_view n.name; brackets = n.brackets; arguments = n.arguments }

abbrev pub nodes_view : List Node → List syntax.Node
nodes_view ns = map node_view ns

-- the list is that of the phrase's identifiers
abbrev pub IsTerm : List Node → syntax.Phrase → Type 0
IsTerm ns p = nodes_view ns ≡ flat p

pub record IsCondition (c : CondText) (tree : syntax.ConditionTree) : Type 0 where
  pub left : IsTerm c.left.items tree.left
  pub right : IsTerm c.right.items tree.right

abbrev pub AreConditions : List CondText → List syntax.ConditionTree → Type 0
AreConditions [] [] = Unit {0}
AreConditions [] (t ∷ ts) = ⊥
AreConditions (c ∷ cs) [] = ⊥
AreConditions (c ∷ cs) (t ∷ ts) = IsCondition c t × AreConditions cs ts

pub record IsRule (r : RuleText) (tree : syntax.RuleTree) : Type 0 where
  pub left : IsTerm r.left.items tree.left
  pub right : IsTerm r.right.items tree.right
  pub bar : r.bar ≡ option_map (λ g. g.at) tree.guard
  pub conditions : AreConditions r.conditions.items (conditions_of tree)

abbrev pub AreRules : List RuleText → List syntax.RuleTree → Type 0
AreRules [] [] = Unit {0}
AreRules [] (t ∷ ts) = ⊥
AreRules (r ∷ rs) [] = ⊥
AreRules (r ∷ rs) (t ∷ ts) = IsRule r t × AreRules rs ts

abbrev pub names_view : List Name → List syntax.Name
names_view ns = map name_view ns

pub record IsFileText (file : FileText) (tree : syntax.FileTree) : Type 0 where
  pub condition_type : file.condition_type ≡ tree.condition_type
  pub variables : names_view file.variables.items ≡ tree.variables
  pub rules : AreRules file.rules.items tree.rules
