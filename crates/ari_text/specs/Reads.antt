-- What is read of words.
use Rattle.std.specs.Prelude.{◌≡◌, ℕ, List, ◌∷◌, ◌++◌, [], false, Option, Some, None, option_map}
use Rattle.file_text.specs.Syntax as syntax
use Rattle.file_text.specs.Syntax.{Phrase, Phrases, flat, flat_all, count, ConditionTree, Guard, RuleTree}
use Rattle.cops_syntax.specs.declared.tree.Node.{Node}
use Rattle.cops_syntax.specs.declared.tree.Name.{Name}
use Rattle.cops_syntax.specs.declared.tree.CondText.{CondText}
use Rattle.cops_syntax.specs.declared.tree.RuleText.{RuleText}
use Rattle.cops_syntax.specs.View.{nodes_view, IsCondition, AreConditions, IsRule, AreRules}
use Rattle.cops_names.specs.NameTable.{NameTable}
use Rattle.ari_text.specs.declared.words.Word.{Word}
use Rattle.ari_text.specs.Signs.{Sign, sign_of, opening, closing, name as name_sign}
use Rattle.ari_text.specs.Grammar.{term_signs, terms_signs, condition_signs, conditions_signs, rule_signs, function_signs, AreMatched, IsBehindMetas, ArePartsIn}

-- the next word, or that there is none
abbrev pub IsNext : List Sign → List Sign → Option Word → Type 0
IsNext old new (Some w) = old ≡ sign_of w ∷ new
IsNext old new None = (old ≡ []) × (new ≡ [])

-- a name without brackets was put last
pub record IsBarePut (n : syntax.Name) (before after : List Node) : Type 0 where
  pub listed : nodes_view after ≡ nodes_view before ++ record { name = n; brackets = false; arguments = 0 } ∷ []

-- a term was read, and its names were put last
pub record IsTermRead (old new : List Sign) (before after : List Node) : Type 0 where
  pub phrase : Phrase
  pub words : old ≡ term_signs phrase new
  pub listed : nodes_view after ≡ nodes_view before ++ flat phrase

-- the same of as many terms
pub record AreTermsRead (old new : List Sign) (before after : List Node) (n : ℕ) : Type 0 where
  pub phrases : Phrases
  pub many : n ≡ count phrases
  pub words : old ≡ terms_signs phrases new
  pub listed : nodes_view after ≡ nodes_view before ++ flat_all phrases

-- words with matching brackets were taken, and then a closing one
pub record IsBodyRead (old new : List Sign) : Type 0 where
  pub inside : List Sign
  pub matched : AreMatched 0 inside
  pub words : old ≡ inside ++ closing ∷ new

-- the next part has this key word, or there is none
abbrev pub IsKeyRead : List Sign → List Sign → Option Name → Type 0
IsKeyRead old new (Some n) = IsBehindMetas old (opening ∷ name_sign n.text.now ∷ new)
IsKeyRead old new None = IsBehindMetas old []

-- a function was read behind its key word, and is the last one
pub record IsFunctionRead (old new : List Sign) (before after : NameTable) : Type 0 where
  pub function : List ℕ × ℕ
  pub words : old ≡ function_signs function new
  pub listed : after.symbols ≡ before.symbols ++ function ∷ []

pub record IsConditionRead (old new : List Sign) (c : CondText) : Type 0 where
  pub tree : ConditionTree
  pub words : old ≡ condition_signs tree new
  pub is : IsCondition c tree

-- conditions with a bar at a place; no bar where there are none
abbrev pub guard_of : ℕ → List ConditionTree → Option Guard
guard_of at [] = None
guard_of at (c ∷ cs) = Some record { at = at; first = c; others = cs }

-- conditions so far
pub record AreConditionsSoFar (old new : List Sign) (bar : Option ℕ) (cs : List CondText) : Type 0 where
  pub at : ℕ
  pub trees : List ConditionTree
  pub words : old ≡ conditions_signs trees new
  pub placed : bar ≡ option_map (λ g. g.at) (guard_of at trees)
  pub are : AreConditions cs trees

-- all conditions of a rule with these sides, and its closing bracket
pub record AreConditionsRead (old new : List Sign) (left right : List Node) (r : RuleText) : Type 0 where
  pub at : ℕ
  pub trees : List ConditionTree
  pub words : old ≡ conditions_signs trees (closing ∷ new)
  pub left_is : r.left.items ≡ left
  pub right_is : r.right.items ≡ right
  pub placed : r.bar ≡ option_map (λ g. g.at) (guard_of at trees)
  pub are : AreConditions r.conditions.items trees

pub record IsRuleRead (old new : List Sign) (r : RuleText) : Type 0 where
  pub tree : RuleTree
  pub words : old ≡ rule_signs tree new
  pub is : IsRule r tree

-- functions and rules, up to the end
pub record ArePartsRead (ws : List Sign) (fs : List (List ℕ × ℕ)) (rs : List RuleText) : Type 0 where
  pub trees : List RuleTree
  pub words : ArePartsIn ws fs trees
  pub are : AreRules rs trees
