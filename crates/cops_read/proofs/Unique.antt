-- A phrase means at most one term, and a tree at most one system.
use Rattle.std.proofs.Common.{◌≡◌, ℕ, List, [], ◌∷◌, map, refl, sym, ap, ap₂, subst, ◌∙◌, length}
use Rattle.std.proofs.lemmas.Bool.{both_ways}
use Rattle.file_text.specs.Syntax.{Phrase, Phrases, word, call, none, more, ConditionTree, RuleTree, conditions_of, FileTree}
use Rattle.rewriting.specs.Prelude.{Term, var, app, Terms, nil, cons, Condition, Rule, System}
use Rattle.rewriting.proofs.Once.{same_some}
use Rattle.cops_names.specs.NameTable.{NameTable}
use Rattle.cops_read.specs.Meaning.{variables_of, IsTermOf, AreTermsOf, AreConditionsOf, IsRuleOf, AreRulesOf}
use Rattle.cops_read.specs.File.{IsSystemOf}

module _ (block : List (List ℕ)) (table : List (List ℕ × ℕ)) where
  mutual
    pub one_term : (names : List (List ℕ)) (p : Phrase) (t u : Term) → IsTermOf block table names p t → IsTermOf block table names p u → t ≡ u
    one_term names (word f) (var x) (var y) h g = ap var (same_some _ x y h.1 g.1)
    one_term names (word f) (var x) (app k us) h g = absurd (both_ways _ g.0.0 h.0)
    one_term names (word f) (app k us) (var x) h g = absurd (both_ways _ h.0.0 g.0)
    one_term names (word f) (app k us) (app j vs) h g = ap₂ app (same_some _ k j h.0.1 g.0.1) (h.1 ∙ sym g.1)
    one_term names (call f ts) (var x) u h g = absurd h
    one_term names (call f ts) (app k us) (var x) h g = absurd g
    one_term names (call f ts) (app k us) (app j vs) h g = ap₂ app (same_some _ k j h.0.1 g.0.1) (one_terms names ts us vs h.1 g.1)

    pub one_terms : (names : List (List ℕ)) (ps : Phrases) (ts us : Terms) → AreTermsOf block table names ps ts → AreTermsOf block table names ps us → ts ≡ us
    one_terms names none nil nil h g = refl
    one_terms names none nil (cons u us) h g = absurd g
    one_terms names none (cons t ts) us h g = absurd h
    one_terms names (more p ps) nil us h g = absurd h
    one_terms names (more p ps) (cons t ts) nil h g = absurd g
    one_terms names (more p ps) (cons t ts) (cons u us) h g = ap₂ cons (one_term names p t u h.0 g.0) (one_terms names ps ts us h.1 g.1)

  pub one_conditions : (names : List (List ℕ)) (cs : List ConditionTree) (ds es : List Condition) → AreConditionsOf block table names cs ds → AreConditionsOf block table names cs es → ds ≡ es
  one_conditions names [] [] [] h g = refl
  one_conditions names [] [] (e ∷ es) h g = absurd g
  one_conditions names [] (d ∷ ds) es h g = absurd h
  one_conditions names (c ∷ cs) [] es h g = absurd h
  one_conditions names (c ∷ cs) (d ∷ ds) [] h g = absurd g
  one_conditions names (c ∷ cs) (d ∷ ds) (e ∷ es) h g =
      let l = one_term names c.left d.left e.left h.0 g.0 in
      let r = one_term names c.right d.right e.right h.1 g.1 in
      let rest = one_conditions names cs ds es h.2 g.2 in
      let here : d ≡ e = ap₂ (λ (x y : Term). record { left = x; right = y }) l r in
      ap₂ (λ (x : Condition) (xs : List Condition). x ∷ xs) here rest

  one_rule : (tree : RuleTree) (r s : Rule) → IsRuleOf block table tree r → IsRuleOf block table tree s → r ≡ s
  one_rule tree r s h g =
      let left = one_term _ tree.left r.left s.left h.left g.left in
      let right = one_term _ tree.right r.right s.right h.right g.right in
      let conditions = one_conditions _ (conditions_of tree) r.conditions s.conditions h.conditions g.conditions in
      ap₂ (λ (x : Term) (rest : Term × List Condition). record { left = x; right = rest.0; conditions = rest.1 }) left (ap₂ (λ (x : Term) (cs : List Condition). (x, cs)) right conditions)

  pub one_rules : (trees : List RuleTree) (rs ss : List Rule) → AreRulesOf block table trees rs → AreRulesOf block table trees ss → rs ≡ ss
  one_rules [] [] [] h g = refl
  one_rules [] [] (s ∷ ss) h g = absurd g
  one_rules [] (r ∷ rs) ss h g = absurd h
  one_rules (t ∷ ts) [] ss h g = absurd h
  one_rules (t ∷ ts) (r ∷ rs) [] h g = absurd g
  one_rules (t ∷ ts) (r ∷ rs) (s ∷ ss) h g = ap₂ (λ (x : Rule) (xs : List Rule). x ∷ xs) (one_rule t r s h.0 g.0) (one_rules ts rs ss h.1 g.1)

pub one_table : (file : FileTree) (sys other : System) (names others : NameTable) → IsSystemOf file sys names → IsSystemOf file other others → names ≡ others
one_table file sys other names others h g =
    ap₂ (λ (s : List (List ℕ × ℕ)) (v : List (List (List ℕ))). record { symbols = s; variables = v }) (h.symbols ∙ sym g.symbols) (h.variables ∙ sym g.variables)

pub one_system : (file : FileTree) (sys other : System) (names others : NameTable) → IsSystemOf file sys names → IsSystemOf file other others → sys ≡ other
one_system file sys other names others h g =
    let tables = one_table file sys other names others h g in
    let again = subst (λ (n : NameTable). AreRulesOf (variables_of file) n.symbols file.rules other.rules) (sym tables) g.rules in
    let symbols : sys.arities ≡ other.arities = h.arities ∙ ap (λ (n : NameTable). map (λ s. s.1) n.symbols) tables ∙ sym g.arities in
    ap₂ (λ (a : List ℕ) (r : List Rule × ℕ). record { arities = a; rules = r.0; own = r.1 }) symbols
    (ap₂ (λ (r : List Rule) (n : ℕ). (r, n)) (one_rules (variables_of file) names.symbols file.rules sys.rules other.rules h.rules again) (h.own ∙ ap length symbols ∙ sym g.own))
