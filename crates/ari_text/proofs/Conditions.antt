-- Conditions of a rule, one after the other.
use Rattle.std.proofs.Common.{◌≡◌, ℕ, List, [], ◌∷◌, ◌++◌, Option, Some, refl, sym, ap, ◌∙◌, subst, codes}
use Rattle.std.specs.Prelude.{option_map, unwrap_or}
use Rattle.file_text.specs.Syntax.{ConditionTree, Guard, guarded, flat}
use Rattle.cops_syntax.specs.declared.tree.Node.{Node}
use Rattle.cops_syntax.specs.declared.tree.CondText.{CondText}
use Rattle.cops_syntax.specs.declared.tree.RuleText.{RuleText}
use Rattle.cops_syntax.specs.View.{nodes_view, IsCondition, AreConditions}
use Rattle.ari_text.specs.Signs.{Sign, opening, closing, name}
use Rattle.ari_text.specs.Grammar.{condition_signs, conditions_signs, term_signs}
use Rattle.ari_text.specs.Reads.{IsTermRead, IsConditionRead, guard_of, AreConditionsSoFar, AreConditionsRead, IsRuleRead}

abbrev place_of : Option Guard → Option ℕ
place_of g = option_map (λ (x : Guard). x.at) g

are_more : (cs : List CondText) (ts : List ConditionTree) (c : CondText) (t : ConditionTree) → AreConditions cs ts → IsCondition c t → AreConditions (cs ++ c ∷ []) (ts ++ t ∷ [])
are_more [] [] c t h i = (i, tt)
are_more [] (u ∷ us) c t h i = absurd h
are_more (d ∷ ds) [] c t h i = absurd h
are_more (d ∷ ds) (u ∷ us) c t h i = (h.0, are_more ds us c t h.1 i)

more_signs : (ts : List ConditionTree) (t : ConditionTree) (k : List Sign) → conditions_signs (ts ++ t ∷ []) k ≡ conditions_signs ts (condition_signs t k)
more_signs [] t k = refl
more_signs (u ∷ us) t k = ap (condition_signs u) (more_signs us t k)

-- the bar is the first one's place
placed_more : (at place : ℕ) (bar : Option ℕ) (ts : List ConditionTree) (t : ConditionTree) → bar ≡ place_of (guard_of at ts)
    → (first : ℕ) × (Some (unwrap_or bar place) ≡ place_of (guard_of first (ts ++ t ∷ [])))
placed_more at place bar [] t e = (place, ap (λ (o : Option ℕ). Some (unwrap_or o place)) e)
placed_more at place bar (u ∷ us) t e = (at, ap (λ (o : Option ℕ). Some (unwrap_or o place)) e)

pub one_condition_more : (old mid opened new : List Sign) (bar : Option ℕ) (place : ℕ) (cs : List CondText) (c : CondText)
    → AreConditionsSoFar old mid bar cs → mid ≡ opening ∷ opened → IsConditionRead (opening ∷ opened) new c → AreConditionsSoFar old new (Some (unwrap_or bar place)) (cs ++ c ∷ [])
one_condition_more old mid opened new bar place cs c s e r =
    let p = placed_more s.at place bar s.trees r.tree s.placed in
    record {
      at = p.0;
      trees = s.trees ++ r.tree ∷ [];
      words = s.words ∙ ap (conditions_signs s.trees) (e ∙ r.words) ∙ sym (more_signs s.trees r.tree new);
      placed = p.1;
      are = are_more cs s.trees c r.tree s.are r.is;
    }

guarded_is : (at : ℕ) (ts : List ConditionTree) → guarded (guard_of at ts) ≡ ts
guarded_is at [] = refl
guarded_is at (t ∷ ts) = refl

pub rule_read : (old mid last new : List Sign) (empty none left right : List Node) (r : RuleText)
    → empty ≡ [] → none ≡ [] → IsTermRead old mid empty left → IsTermRead mid last none right → AreConditionsRead last new left right r → IsRuleRead old new r
rule_read old mid last new empty none left right r z y a b c =
    let g = guard_of c.at c.trees in
    record {
      tree = record { left = a.phrase; right = b.phrase; guard = g };
      words = a.words ∙ ap (term_signs a.phrase) (b.words ∙ ap (term_signs b.phrase) (c.words ∙ ap (λ (ts : List ConditionTree). conditions_signs ts (closing ∷ new)) (sym (guarded_is c.at c.trees))));
      is = record {
        left = ap nodes_view c.left_is ∙ a.listed ∙ ap (λ (ns : List Node). nodes_view ns ++ flat a.phrase) z;
        right = ap nodes_view c.right_is ∙ b.listed ∙ ap (λ (ns : List Node). nodes_view ns ++ flat b.phrase) y;
        bar = c.placed;
        conditions = subst (AreConditions r.conditions.items) (sym (guarded_is c.at c.trees)) c.are;
      };
    }

pub condition_read : (old named mid last new : List Sign) (f : List ℕ) (empty none left right : List Node) (c : CondText)
    → empty ≡ [] → none ≡ [] → old ≡ name f ∷ named → f ≡ codes "=" → IsTermRead named mid empty left → IsTermRead mid last none right → last ≡ closing ∷ new
    → c.left.items ≡ left → c.right.items ≡ right
    → IsConditionRead (opening ∷ old) new c
condition_read old named mid last new f empty none left right c z y e s a b k l r = record {
  tree = record { left = a.phrase; right = b.phrase };
  words = ap (λ (ws : List Sign). opening ∷ ws) (e ∙ ap (λ (t : List ℕ). name t ∷ named) s
      ∙ ap (λ (ws : List Sign). name (codes "=") ∷ ws) (a.words ∙ ap (term_signs a.phrase) (b.words ∙ ap (term_signs b.phrase) k)));
  is = record {
    left = ap nodes_view l ∙ a.listed ∙ ap (λ (ns : List Node). nodes_view ns ++ flat a.phrase) z;
    right = ap nodes_view r ∙ b.listed ∙ ap (λ (ns : List Node). nodes_view ns ++ flat b.phrase) y;
  };
}
