-- Tables of symbols and lists of names only grow, and what a phrase means stays.
use Rattle.std.proofs.Common.{◌≡◌, ℕ, Bool, true, false, List, [], ◌∷◌, Option, Some, None, refl, ap, ◌∙◌}
use Rattle.std.specs.Prelude.{option_map, slice_get, if◌then◌else◌, is_some}
use Rattle.std.specs.Str.{bytes_eq}
use Rattle.file_text.specs.Syntax.{Phrase, Phrases, word, call, none, more, count, ConditionTree, RuleTree, conditions_of}
use Rattle.rewriting.specs.Prelude.{Term, var, app, Terms, nil, cons, Condition, Rule}
use Rattle.cops_names.specs.NameTable.{number_of}
use Rattle.cops_names.specs.NameLists.{is_among, with_name}
use Rattle.cops_read.specs.Meaning.{with_symbol, phrases_of_rule, with_variables, with_all_variables, with_symbols, with_all_symbols, with_rule_symbols, IsVariableOf, IsSymbolOf}
use Rattle.cops_read.specs.Meaning.{IsTermOf, AreTermsOf, AreConditionsOf, IsRuleOf, AreRulesOf}
use Rattle.cops_names.proofs.Lists.{Extends, extends_refl, extends_trans, extends_one, extends_position, extends_get}

extends_or : {A : Type 0} (b : Bool) (xs ys : List A) → Extends xs ys → Extends xs (if b then xs else ys)
extends_or true xs ys e = extends_refl xs
extends_or false xs ys e = e

or_extends : {A : Type 0} (b : Bool) (xs ys : List A) → Extends xs ys → Extends xs (if b then ys else xs)
or_extends true xs ys e = e
or_extends false xs ys e = extends_refl xs

module _ (block : List (List ℕ)) where
  mutual
    pub symbols_extend : (table : List (List ℕ × ℕ)) (t : Phrase) → Extends table (with_symbols block table t)
    symbols_extend table (word f) =
        extends_or (is_among block f.text) table (with_symbol table f.text 0) (extends_one (is_some (number_of table f.text)) table (f.text, 0))
    symbols_extend table (call f ts) =
        extends_trans table (with_symbol table f.text (count ts)) _ (extends_one (is_some (number_of table f.text)) table (f.text, count ts))
        (all_symbols_extend (with_symbol table f.text (count ts)) ts)

    pub all_symbols_extend : (table : List (List ℕ × ℕ)) (ts : Phrases) → Extends table (with_all_symbols block table ts)
    all_symbols_extend table none = extends_refl table
    all_symbols_extend table (more t ts) =
        extends_trans table (with_symbols block table t) _ (symbols_extend table t) (all_symbols_extend (with_symbols block table t) ts)

  mutual
    pub variables_extend : (names : List (List ℕ)) (t : Phrase) → Extends names (with_variables block names t)
    variables_extend names (word f) = or_extends (is_among block f.text) names (with_name names f.text) (extends_one (is_among names f.text) names f.text)
    variables_extend names (call f ts) = all_variables_extend names ts

    pub all_variables_extend : (names : List (List ℕ)) (ts : Phrases) → Extends names (with_all_variables block names ts)
    all_variables_extend names none = extends_refl names
    all_variables_extend names (more t ts) =
        extends_trans names (with_variables block names t) _ (variables_extend names t) (all_variables_extend (with_variables block names t) ts)

  pub rule_symbols_extend : (table : List (List ℕ × ℕ)) (rs : List RuleTree) → Extends table (with_rule_symbols block table rs)
  rule_symbols_extend table [] = extends_refl table
  rule_symbols_extend table (r ∷ rs) =
      extends_trans table (with_all_symbols block table (phrases_of_rule r)) _ (all_symbols_extend table (phrases_of_rule r))
      (rule_symbols_extend (with_all_symbols block table (phrases_of_rule r)) rs)

  arity_grows : (table longer : List (List ℕ × ℕ)) (f n : ℕ) (o : Option (List ℕ × ℕ)) → slice_get table f ≡ o → Extends table longer
      → option_map (λ s. s.1) o ≡ Some n → option_map (λ s. s.1) (slice_get longer f) ≡ Some n
  arity_grows table longer f n None o e h = cc
  arity_grows table longer f n (Some s) o e h = ap (option_map (λ (s : List ℕ × ℕ). s.1)) (extends_get table longer f s e o) ∙ h

  pub symbol_grows : (table longer : List (List ℕ × ℕ)) (name : List ℕ) (n f : ℕ) → Extends table longer → IsSymbolOf block table name n f → IsSymbolOf block longer name n f
  symbol_grows table longer name n f e h =
      (h.0, extends_position (λ s. bytes_eq name s.0) table longer f e h.1, arity_grows table longer f n (slice_get table f) refl e h.2)

  pub variable_grows : (names longer : List (List ℕ)) (name : List ℕ) (x : ℕ) → Extends names longer → IsVariableOf block names name x → IsVariableOf block longer name x
  variable_grows names longer name x e h = (h.0, extends_position (bytes_eq name) names longer x e h.1)

  mutual
    pub term_grows : (table : List (List ℕ × ℕ)) (names : List (List ℕ)) (longer : List (List ℕ × ℕ)) (more_names : List (List ℕ)) (t : Phrase) (u : Term)
        → Extends table longer → Extends names more_names → IsTermOf block table names t u → IsTermOf block longer more_names t u
    term_grows table names longer more_names (word f) (var x) e g h = variable_grows names more_names f.text x g h
    term_grows table names longer more_names (word f) (app k us) e g h = (symbol_grows table longer f.text 0 k e h.0, h.1)
    term_grows table names longer more_names (call f ts) (var x) e g h = h
    term_grows table names longer more_names (call f ts) (app k us) e g h =
        (symbol_grows table longer f.text (count ts) k e h.0, terms_grow table names longer more_names ts us e g h.1)

    pub terms_grow : (table : List (List ℕ × ℕ)) (names : List (List ℕ)) (longer : List (List ℕ × ℕ)) (more_names : List (List ℕ)) (ts : Phrases) (us : Terms)
        → Extends table longer → Extends names more_names → AreTermsOf block table names ts us → AreTermsOf block longer more_names ts us
    terms_grow table names longer more_names none nil e g h = h
    terms_grow table names longer more_names none (cons u us) e g h = h
    terms_grow table names longer more_names (more t ts) nil e g h = h
    terms_grow table names longer more_names (more t ts) (cons u us) e g h =
        (term_grows table names longer more_names t u e g h.0, terms_grow table names longer more_names ts us e g h.1)

  pub conditions_grow : (table : List (List ℕ × ℕ)) (names : List (List ℕ)) (longer : List (List ℕ × ℕ)) (more_names : List (List ℕ)) (cs : List ConditionTree) (ds : List Condition)
      → Extends table longer → Extends names more_names → AreConditionsOf block table names cs ds → AreConditionsOf block longer more_names cs ds
  conditions_grow table names longer more_names [] [] e g h = h
  conditions_grow table names longer more_names [] (d ∷ ds) e g h = h
  conditions_grow table names longer more_names (c ∷ cs) [] e g h = h
  conditions_grow table names longer more_names (c ∷ cs) (d ∷ ds) e g h =
      (term_grows table names longer more_names c.left d.left e g h.0, term_grows table names longer more_names c.right d.right e g h.1, conditions_grow table names longer more_names cs ds e g h.2)

  pub rule_grows : (table longer : List (List ℕ × ℕ)) (t : RuleTree) (r : Rule) → Extends table longer → IsRuleOf block table t r → IsRuleOf block longer t r
  rule_grows table longer t r e h = record {
    left = term_grows table _ longer _ t.left r.left e (extends_refl _) h.left;
    right = term_grows table _ longer _ t.right r.right e (extends_refl _) h.right;
    conditions = conditions_grow table _ longer _ (conditions_of t) r.conditions e (extends_refl _) h.conditions;
  }

  pub rules_grow : (table longer : List (List ℕ × ℕ)) (ts : List RuleTree) (rs : List Rule) → Extends table longer → AreRulesOf block table ts rs → AreRulesOf block longer ts rs
  rules_grow table longer [] [] e h = h
  rules_grow table longer [] (r ∷ rs) e h = h
  rules_grow table longer (t ∷ ts) [] e h = h
  rules_grow table longer (t ∷ ts) (r ∷ rs) e h = (rule_grows table longer t r e h.0, rules_grow table longer ts rs e h.1)
