-- Functions and rules, one after the other.
use Rattle.std.proofs.Common.{◌≡◌, ℕ, List, [], ◌∷◌, ◌++◌, codes, sym, ap, ◌∙◌, subst, append_assoc, append-nil}
use Rattle.file_text.specs.Syntax.{RuleTree}
use Rattle.cops_syntax.specs.declared.tree.RuleText.{RuleText}
use Rattle.cops_syntax.specs.View.{IsRule, AreRules}
use Rattle.ari_text.specs.Signs.{Sign, opening, name}
use Rattle.ari_text.specs.Grammar.{IsBehindMetas, AreRulesIn, ArePartsIn}
use Rattle.ari_text.specs.Reads.{IsRuleRead, ArePartsRead}

abbrev pub Functions : Type 0
Functions = List (List ℕ × ℕ)

-- functions and rules so far, and what goes on with them
pub record ArePartsSoFar (ws rest : List Sign) (fs : Functions) (rs : List RuleText) : Type 0 where
  pub trees : List RuleTree
  pub are : AreRules rs trees
  pub rules_go_on : (qs : List RuleTree) → AreRulesIn rest qs → ArePartsIn ws fs (trees ++ qs)
  pub functions_go_on : trees ≡ [] → (gs : Functions) (qs : List RuleTree) → ArePartsIn rest gs qs → ArePartsIn ws (fs ++ gs) qs

are_more : (rs : List RuleText) (ts : List RuleTree) (r : RuleText) (t : RuleTree) → AreRules rs ts → IsRule r t → AreRules (rs ++ r ∷ []) (ts ++ t ∷ [])
are_more [] [] r t h i = (i, tt)
are_more [] (u ∷ us) r t h i = absurd h
are_more (q ∷ qs) [] r t h i = absurd h
are_more (q ∷ qs) (u ∷ us) r t h i = (h.0, are_more qs us r t h.1 i)

not_empty : (ts : List RuleTree) (t : RuleTree) → ts ++ t ∷ [] ≡ [] → ⊥
not_empty [] t e = cc
not_empty (u ∷ us) t e = cc

pub one_rule_more : (ws mid named new : List Sign) (fs : Functions) (rs : List RuleText) (f : List ℕ) (r : RuleText)
    → ArePartsSoFar ws mid fs rs → IsBehindMetas mid (opening ∷ name f ∷ named) → f ≡ codes "rule" → IsRuleRead named new r → ArePartsSoFar ws new fs (rs ++ r ∷ [])
one_rule_more ws mid named new fs rs f r s k e h = record {
  trees = s.trees ++ h.tree ∷ [];
  are = are_more rs s.trees r h.tree s.are h.is;
  rules_go_on = λ qs g. subst (ArePartsIn ws fs) (sym (append_assoc s.trees (h.tree ∷ []) qs))
      (s.rules_go_on (h.tree ∷ qs) (new, subst (IsBehindMetas mid) (ap (λ (t : List ℕ). opening ∷ name t ∷ named) e ∙ ap (λ (vs : List Sign). opening ∷ name (codes "rule") ∷ vs) h.words) k, g));
  functions_go_on = λ t gs qs g. absurd (not_empty s.trees h.tree t);
}

pub parts_read : (ws mid : List Sign) (fs : Functions) (rs : List RuleText) → ArePartsSoFar ws mid fs rs → IsBehindMetas mid [] → ArePartsRead ws fs rs
parts_read ws mid fs rs s e = record {
  trees = s.trees;
  words = subst (ArePartsIn ws fs) (append-nil s.trees) (s.rules_go_on [] e);
  are = s.are;
}
