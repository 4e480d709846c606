-- Trees that are alike mean the same, under blocks that agree.
use Rattle.std.proofs.Common.{◌≡◌, ℕ, suc, Bool, List, [], ◌∷◌, map, Option, None, Some, refl, sym, ap, ap₂, ◌∙◌, subst}
use Rattle.std.specs.Prelude.{if◌then◌else◌}
use Rattle.std.proofs.lemmas.Bool.{cond-false}
use Rattle.file_text.specs.Syntax.{Name, Phrase, Phrases, word, call, none, more, count, ConditionTree, Guard, RuleTree, conditions_of, guarded}
use Rattle.rewriting.specs.Prelude.{Term, var, app, Terms, nil, cons, Condition, Rule, terms_of_rule}
use Rattle.cops_names.specs.NameTable.{number_of}
use Rattle.cops_names.specs.NameLists.{name_index, is_among, with_name}
use Rattle.cops_read.specs.Meaning.{with_symbol, sides, phrases_of_rule, with_variables, with_all_variables, with_symbols, with_all_symbols, rule_variables, with_rule_symbols}
use Rattle.cops_read.specs.Meaning.{IsSymbolOf, IsTermOf, AreTermsOf, AreConditionsOf, IsRuleOf, AreRulesOf}
use Rattle.cops_read.proofs.Sound.{terms_are}
use Rattle.cops_write.proofs.Trees.{Alike, AreAlike, ConditionsAlike, GuardsAlike, RulesAlike}
use Rattle.cops_write.proofs.Agree.{Names, Agree, AgreeAll, RulesAgree}

pub same_count : (ts us : Phrases) → AreAlike ts us → count ts ≡ count us
same_count none none h = refl
same_count none (more u us) h = absurd h
same_count (more t ts) none h = absurd h
same_count (more t ts) (more u us) h = ap suc (same_count ts us h.1)

sides_alike : (cs ds : List ConditionTree) → ConditionsAlike cs ds → AreAlike (sides cs) (sides ds)
sides_alike [] [] h = tt
sides_alike [] (d ∷ ds) h = absurd h
sides_alike (c ∷ cs) [] h = absurd h
sides_alike (c ∷ cs) (d ∷ ds) h = (h.0, (h.1, sides_alike cs ds h.2))

guards_alike : (g h : Option Guard) → GuardsAlike g h → ConditionsAlike (guarded g) (guarded h)
guards_alike None None l = tt
guards_alike None (Some h) l = absurd l
guards_alike (Some g) None l = absurd l
guards_alike (Some g) (Some h) l = l

module _ (block other : Names) where
  told : (f g : Name) → is_among block f.text ≡ is_among other f.text → f.text ≡ g.text → is_among block f.text ≡ is_among other g.text
  told f g a e = a ∙ ap (is_among other) e

  module _ (table : List (List ℕ × ℕ)) (vars : Names) where
    symbol_means : (f g : Name) (m n s : ℕ) → is_among block f.text ≡ is_among other g.text → f.text ≡ g.text → m ≡ n → IsSymbolOf block table f.text m s → IsSymbolOf other table g.text n s
    symbol_means f g m n s a e c h = (sym a ∙ h.0, subst (λ (x : List ℕ). number_of table x ≡ Some s) e h.1, h.2 ∙ ap Some c)

    no_terms : (ts : Phrases) (us : Terms) → ts ≡ none → AreTermsOf block table vars ts us → us ≡ nil
    no_terms none nil e h = refl
    no_terms none (cons u us) e h = absurd h
    no_terms (more t ts) us e h = absurd cc

    mutual
      means : (p q : Phrase) (t : Term) → Alike p q → Agree block other p → IsTermOf block table vars p t → IsTermOf other table vars q t
      means (word f) (word g) (var x) l a h = (sym (told f g a l) ∙ h.0, subst (λ (s : List ℕ). name_index vars s ≡ Some x) l h.1)
      means (word f) (word g) (app k us) l a h = (symbol_means f g 0 0 k (told f g a l) l refl h.0, h.1)
      means (word f) (call g ts) t l a h = absurd l
      means (call f ts) (word g) (var x) l a h = absurd h
      means (call f ts) (word g) (app k us) l a h = (symbol_means f g (count ts) 0 k (told f g a.0 l.0) l.0 (ap count l.1) h.0, no_terms ts us l.1 h.1)
      means (call f ts) (call g vs) (var x) l a h = absurd h
      means (call f ts) (call g vs) (app k us) l a h = (symbol_means f g (count ts) (count vs) k (told f g a.0 l.0) l.0 (same_count ts vs l.1) h.0, means_all ts vs us l.1 a.1 h.1)

      means_all : (ps qs : Phrases) (ts : Terms) → AreAlike ps qs → AgreeAll block other ps → AreTermsOf block table vars ps ts → AreTermsOf other table vars qs ts
      means_all none none nil l a h = tt
      means_all none none (cons t ts) l a h = absurd h
      means_all none (more q qs) ts l a h = absurd l
      means_all (more p ps) none ts l a h = absurd l
      means_all (more p ps) (more q qs) nil l a h = absurd h
      means_all (more p ps) (more q qs) (cons t ts) l a h = (means p q t l.0 a.0 h.0, means_all ps qs ts l.1 a.1 h.1)

    conditions_mean : (cs ds : List ConditionTree) (es : List Condition) → ConditionsAlike cs ds → AgreeAll block other (sides cs) → AreConditionsOf block table vars cs es
        → AreConditionsOf other table vars ds es
    conditions_mean [] [] [] l a h = tt
    conditions_mean [] [] (e ∷ es) l a h = absurd h
    conditions_mean [] (d ∷ ds) es l a h = absurd l
    conditions_mean (c ∷ cs) [] es l a h = absurd l
    conditions_mean (c ∷ cs) (d ∷ ds) [] l a h = absurd h
    conditions_mean (c ∷ cs) (d ∷ ds) (e ∷ es) l a h =
        (means c.left d.left e.left l.0 a.0 h.0, means c.right d.right e.right l.1 a.1.0 h.1, conditions_mean cs ds es l.2 a.1.1 h.2)

    mutual
      same_variables : (names : Names) (p q : Phrase) (t : Term) → Alike p q → Agree block other p → IsTermOf block table vars p t → with_variables block names p ≡ with_variables other names q
      same_variables names (word f) (word g) t l a h = ap₂ (λ (b : Bool) (s : List ℕ). if b then with_name names s else names) (told f g a l) l
      same_variables names (word f) (call g ts) t l a h = absurd l
      same_variables names (call f ts) q (var x) l a h = absurd h
      same_variables names (call f ts) (word g) (app k us) l a h =
          ap (with_all_variables block names) l.1 ∙ sym (cond-false (is_among other g.text) (with_name names g.text) names (sym (told f g a.0 l.0) ∙ h.0.0))
      same_variables names (call f ts) (call g vs) (app k us) l a h = same_variables_all names ts vs us l.1 a.1 h.1

      same_variables_all : (names : Names) (ps qs : Phrases) (ts : Terms) → AreAlike ps qs → AgreeAll block other ps → AreTermsOf block table vars ps ts
          → with_all_variables block names ps ≡ with_all_variables other names qs
      same_variables_all names none none ts l a h = refl
      same_variables_all names none (more q qs) ts l a h = absurd l
      same_variables_all names (more p ps) none ts l a h = absurd l
      same_variables_all names (more p ps) (more q qs) nil l a h = absurd h
      same_variables_all names (more p ps) (more q qs) (cons t ts) l a h =
          ap (λ (w : Names). with_all_variables block w ps) (same_variables names p q t l.0 a.0 h.0) ∙ same_variables_all (with_variables other names q) ps qs ts l.1 a.1 h.1

    mutual
      same_symbols : (now : List (List ℕ × ℕ)) (p q : Phrase) (t : Term) → Alike p q → Agree block other p → IsTermOf block table vars p t → with_symbols block now p ≡ with_symbols other now q
      same_symbols now (word f) (word g) t l a h = ap₂ (λ (b : Bool) (s : List ℕ). if b then now else with_symbol now s 0) (told f g a l) l
      same_symbols now (word f) (call g ts) t l a h = absurd l
      same_symbols now (call f ts) q (var x) l a h = absurd h
      same_symbols now (call f ts) (word g) (app k us) l a h =
          ap (λ (vs : Phrases). with_all_symbols block (with_symbol now f.text (count vs)) vs) l.1
          ∙ ap (λ (s : List ℕ). with_symbol now s 0) l.0
          ∙ sym (cond-false (is_among other g.text) now (with_symbol now g.text 0) (sym (told f g a.0 l.0) ∙ h.0.0))
      same_symbols now (call f ts) (call g vs) (app k us) l a h =
          ap (λ (w : List (List ℕ × ℕ)). with_all_symbols block w ts) (ap₂ (with_symbol now) l.0 (same_count ts vs l.1))
          ∙ same_symbols_all (with_symbol now g.text (count vs)) ts vs us l.1 a.1 h.1

      same_symbols_all : (now : List (List ℕ × ℕ)) (ps qs : Phrases) (ts : Terms) → AreAlike ps qs → AgreeAll block other ps → AreTermsOf block table vars ps ts
          → with_all_symbols block now ps ≡ with_all_symbols other now qs
      same_symbols_all now none none ts l a h = refl
      same_symbols_all now none (more q qs) ts l a h = absurd l
      same_symbols_all now (more p ps) none ts l a h = absurd l
      same_symbols_all now (more p ps) (more q qs) nil l a h = absurd h
      same_symbols_all now (more p ps) (more q qs) (cons t ts) l a h =
          ap (λ (w : List (List ℕ × ℕ)). with_all_symbols block w ps) (same_symbols now p q t l.0 a.0 h.0) ∙ same_symbols_all (with_symbols other now q) ps qs ts l.1 a.1 h.1

  module _ (table : List (List ℕ × ℕ)) where
    rule_phrases_alike : (t u : RuleTree) → Alike t.left u.left → Alike t.right u.right → GuardsAlike t.guard u.guard → AreAlike (phrases_of_rule t) (phrases_of_rule u)
    rule_phrases_alike t u l r g = (l, (r, sides_alike (conditions_of t) (conditions_of u) (guards_alike t.guard u.guard g)))

    same_rule_variables : (t u : RuleTree) (r : Rule) → AreAlike (phrases_of_rule t) (phrases_of_rule u) → AgreeAll block other (phrases_of_rule t) → IsRuleOf block table t r
        → rule_variables block t ≡ rule_variables other u
    same_rule_variables t u r l a h = same_variables_all table (rule_variables block t) [] (phrases_of_rule t) (phrases_of_rule u) (terms_of_rule r) l a (terms_are block table t r h)

    pub same_lists : (ts us : List RuleTree) (rs : List Rule) → RulesAlike ts us → RulesAgree block other ts → AreRulesOf block table ts rs
        → map (rule_variables block) ts ≡ map (rule_variables other) us
    same_lists [] [] rs l a h = refl
    same_lists [] (u ∷ us) rs l a h = absurd l
    same_lists (t ∷ ts) [] rs l a h = absurd l
    same_lists (t ∷ ts) (u ∷ us) [] l a h = absurd h
    same_lists (t ∷ ts) (u ∷ us) (r ∷ rs) l a h =
        ap₂ (λ (v : Names) (vs : List Names). v ∷ vs) (same_rule_variables t u r (rule_phrases_alike t u l.0 l.1 l.2) a.0 h.0) (same_lists ts us rs l.3 a.1 h.1)

    pub same_table : (now : List (List ℕ × ℕ)) (ts us : List RuleTree) (rs : List Rule) → RulesAlike ts us → RulesAgree block other ts → AreRulesOf block table ts rs
        → with_rule_symbols block now ts ≡ with_rule_symbols other now us
    same_table now [] [] rs l a h = refl
    same_table now [] (u ∷ us) rs l a h = absurd l
    same_table now (t ∷ ts) [] rs l a h = absurd l
    same_table now (t ∷ ts) (u ∷ us) [] l a h = absurd h
    same_table now (t ∷ ts) (u ∷ us) (r ∷ rs) l a h =
        ap (λ (w : List (List ℕ × ℕ)). with_rule_symbols block w ts)
        (same_symbols_all table (rule_variables block t) now (phrases_of_rule t) (phrases_of_rule u) (terms_of_rule r) (rule_phrases_alike t u l.0 l.1 l.2) a.0 (terms_are block table t r h.0))
        ∙ same_table (with_all_symbols other now (phrases_of_rule u)) ts us rs l.3 a.1 h.1

    rule_means : (t u : RuleTree) (r : Rule) → Alike t.left u.left → Alike t.right u.right → GuardsAlike t.guard u.guard → AgreeAll block other (phrases_of_rule t)
        → IsRuleOf block table t r → IsRuleOf other table u r
    rule_means t u r l m g a h =
        let vars = rule_variables block t in
        let same : vars ≡ rule_variables other u = same_rule_variables t u r (rule_phrases_alike t u l m g) a h in
        record {
          left = subst (λ (v : Names). IsTermOf other table v u.left r.left) same (means table vars t.left u.left r.left l a.0 h.left);
          right = subst (λ (v : Names). IsTermOf other table v u.right r.right) same (means table vars t.right u.right r.right m a.1.0 h.right);
          conditions = subst (λ (v : Names). AreConditionsOf other table v (conditions_of u) r.conditions) same
              (conditions_mean table vars (conditions_of t) (conditions_of u) r.conditions (guards_alike t.guard u.guard g) a.1.1 h.conditions);
        }

    pub rules_mean : (ts us : List RuleTree) (rs : List Rule) → RulesAlike ts us → RulesAgree block other ts → AreRulesOf block table ts rs → AreRulesOf other table us rs
    rules_mean [] [] rs l a h = h
    rules_mean [] (u ∷ us) rs l a h = absurd l
    rules_mean (t ∷ ts) [] rs l a h = absurd l
    rules_mean (t ∷ ts) (u ∷ us) [] l a h = absurd h
    rules_mean (t ∷ ts) (u ∷ us) (r ∷ rs) l a h = (rule_means t u r l.0 l.1 l.2 a.0 h.0, rules_mean ts us rs l.3 a.1 h.1)
