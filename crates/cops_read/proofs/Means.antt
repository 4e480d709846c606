-- A tree in which nothing is refused means a system.
use Rattle.std.proofs.Common.{◌≡◌, ℕ, ◌+◌, Bool, true, false, List, [], ◌∷◌, ◌++◌, length, map, Option, Some, None, refl, sym, ap, ◌∙◌, arith}
use Rattle.std.specs.Prelude.{option_map, slice_get, if◌then◌else◌, is_some}
use Rattle.std.specs.List.{position_or_len}
use Rattle.std.specs.Str.{bytes_eq}
use Rattle.std.proofs.lemmas.Bool.Decides.{nat_tests}
use Rattle.std.proofs.lemmas.Option.{slice_get-get_or}
use Rattle.std.proofs.lemmas.List.Quantifiers.{position-Some}
use Rattle.file_text.specs.Syntax.{Phrase, Phrases, word, call, none, more, count, ConditionTree, RuleTree, conditions_of, FileTree, has_type}
use Rattle.rewriting.specs.Prelude.{Term, var, app, Terms, nil, cons, Condition, Rule, System, system_of}
use Rattle.cops_names.specs.NameTable.{NameTable, number_of}
use Rattle.cops_names.specs.NameLists.{is_among, with_name}
use Rattle.cops_read.specs.Meaning.{with_symbol, sides, phrases_of_rule, variables_of, with_variables, with_all_variables, with_symbols, with_all_symbols, with_rule_symbols}
use Rattle.cops_read.specs.Meaning.{rule_variables, IsSymbolOf, IsTermOf, AreTermsOf, AreConditionsOf, IsRuleOf, AreRulesOf}
use Rattle.cops_read.specs.Uses.{Side, side_of, Use}
use Rattle.cops_read.specs.Refusals.{known_symbol_cause, arity_in, symbol_cause, refusal_of}
use Rattle.cops_read.specs.Walks.{nodes}
use Rattle.cops_read.specs.Steps.{term_refusal, terms_refusal}
use Rattle.cops_read.specs.RuleSteps.{side_refusal, condition_refusal, conditions_refusal, rule_refusal, rules_refusal}
use Rattle.cops_read.specs.File.{IsSystemOf}
use Rattle.cops_names.proofs.Lists.{Extends, extends_refl, extends_trans, extends_position}
use Rattle.cops_read.proofs.Growth.{symbols_extend, all_symbols_extend, variables_extend, all_variables_extend, rule_symbols_extend, symbol_grows}
use Rattle.cops_names.proofs.Sets.{place_with}
use Rattle.cops_read.proofs.Uses.{put_last}
use Rattle.cops_read.proofs.Firsts.{none_first, none_then, no_cause, no_later}
use Rattle.cops_read.proofs.Events.{refusal_is}
use Rattle.cops_read.proofs.Within.{head_use, head_accepted, as_symbol, no_brackets, left_accepted, right_accepted, conditions_accepted}

-- the number of a symbol in a table, with its arity
record IsThere (table : List (List ℕ × ℕ)) (name : List ℕ) (n : ℕ) : Type 0 where
  pub symbol : ℕ
  pub number : number_of table name ≡ Some symbol
  pub arity : option_map (λ s. s.1) (slice_get table symbol) ≡ Some n

same_arity : (table : List (List ℕ × ℕ)) (u : Use) (f : ℕ) (o : Option ℕ) → o ≡ option_map (λ s. s.1) (slice_get table f) → (o ≡ None → ⊥) → known_symbol_cause table u o ≡ None
    → o ≡ Some u.spot.node.arguments
same_arity table u f None e some h = absurd (some refl)
same_arity table u f (Some n) e some h = let same : n ≡ u.spot.node.arguments = grind (arith, nat_tests) in ap Some same

symbol_there : (table : List (List ℕ × ℕ)) (u : Use) → symbol_cause table u ≡ None
    → IsThere (with_symbol table u.spot.node.name.text u.spot.node.arguments) u.spot.node.name.text u.spot.node.arguments
symbol_there table u h = by (number_of table u.spot.node.name.text) refl
  where
    name : List ℕ
    name = u.spot.node.name.text

    n : ℕ
    n = u.spot.node.arguments

    by : (o : Option ℕ) → number_of table u.spot.node.name.text ≡ o
        → IsThere (if is_some o then table else (table ++ (u.spot.node.name.text, u.spot.node.arguments) ∷ [])) u.spot.node.name.text u.spot.node.arguments
    by None e = let p = put_last table u.spot.node.name.text u.spot.node.arguments e in record { symbol = length table; number = p.0; arity = p.1 }
    by (Some f) e =
        let within = (position-Some (λ (s : List ℕ × ℕ). bytes_eq u.spot.node.name.text s.0) table f ([], 0) e).0 in
        let there = slice_get-get_or table f ([], 0) within in
        let cause : known_symbol_cause table u (option_map (λ (s : List ℕ × ℕ). s.1) (slice_get table f)) ≡ None = sym (ap (λ (o : Option ℕ). known_symbol_cause table u (arity_in table o)) e) ∙ h in
        let some : option_map (λ (s : List ℕ × ℕ). s.1) (slice_get table f) ≡ None → ⊥ = λ none_is. absurd (let wrong = rw there at none_is in cc) in
        record { symbol = f; number = e; arity = same_arity table u f (option_map (λ (s : List ℕ × ℕ). s.1) (slice_get table f)) refl some cause }

module _ (block : List (List ℕ)) (symbols : List (List ℕ × ℕ)) where
  -- a term that a phrase means
  record IsMeant (names : List (List ℕ)) (p : Phrase) : Type 0 where
    pub term : Term
    pub is : IsTermOf block symbols names p term

  record AreMeant (names : List (List ℕ)) (ps : Phrases) : Type 0 where
    pub terms : Terms
    pub are : AreTermsOf block symbols names ps terms

  of_symbol : (table : List (List ℕ × ℕ)) (name : List ℕ) (n : ℕ) → is_among block name ≡ false → Extends table symbols → (h : IsThere table name n) → IsSymbolOf block symbols name n h.symbol
  of_symbol table name n b e h = symbol_grows block table symbols name n h.symbol e (b, h.number, h.arity)

  mutual
    term_meant : (variables : List (List ℕ)) (table : List (List ℕ × ℕ)) (names : List (List ℕ)) (side : Side) (depth argument before : ℕ) (p : Phrase)
        → term_refusal block table names side depth argument before p ≡ None
        → Extends (with_symbols block table p) symbols → Extends (with_variables block names p) variables → IsMeant variables p
    term_meant variables table names side depth argument before (word f) h e g = by (is_among block f.text) refl e g
      where
        by : (b : Bool) → is_among block f.text ≡ b → Extends (if b then table else with_symbol table f.text 0) symbols
            → Extends (if b then with_name names f.text else names) variables → IsMeant variables (word f)
        by true b e g =
            let place = place_with names (with_name names f.text) f.text refl in
            record {
              term = var (position_or_len (bytes_eq f.text) names);
              is = (b, extends_position (bytes_eq f.text) (with_name names f.text) variables (position_or_len (bytes_eq f.text) names) g place);
            }
        by false b e g =
            let u = head_use block side depth argument before (word f) in
            let s = symbol_there table u (as_symbol block table names u (no_cause _ _ _ h) b) in
            record { term = app s.symbol nil; is = (of_symbol (with_symbol table f.text 0) f.text 0 b e s, refl) }
    term_meant variables table names side depth argument before (call f ts) h e g =
        let u = head_use block side depth argument before (call f ts) in
        let cause = head_accepted block table names side depth argument before (call f ts) h in
        let b = no_brackets block table names u cause refl in
        let s = symbol_there table u (as_symbol block table names u cause b) in
        let grown = extends_trans _ _ _ (all_symbols_extend block (with_symbol table f.text (count ts)) ts) e in
        let m = terms_meant variables (with_symbol table f.text (count ts)) names side (depth + 1) 1 (before + 1) ts (no_later _ f.at _ h) e g in
        record { term = app s.symbol m.terms; is = (of_symbol (with_symbol table f.text (count ts)) f.text (count ts) b grown s, m.are) }

    terms_meant : (variables : List (List ℕ)) (table : List (List ℕ × ℕ)) (names : List (List ℕ)) (side : Side) (depth argument before : ℕ) (ps : Phrases)
        → terms_refusal block table names side depth argument before ps ≡ None
        → Extends (with_all_symbols block table ps) symbols → Extends (with_all_variables block names ps) variables → AreMeant variables ps
    terms_meant variables table names side depth argument before none h e g = record { terms = nil; are = tt }
    terms_meant variables table names side depth argument before (more p ps) h e g =
        let first = term_meant variables table names side depth argument before p (none_first _ _ h)
        (extends_trans _ _ _ (all_symbols_extend block (with_symbols block table p) ps) e) (extends_trans _ _ _ (all_variables_extend block (with_variables block names p) ps) g) in
        let later = terms_meant variables (with_symbols block table p) (with_variables block names p) side depth (argument + 1) (before + nodes p) ps
        (none_then (term_refusal block table names side depth argument before p) _ h) e g in
        record { terms = cons first.term later.terms; are = (first.is, later.are) }

  record ConditionsMeant (names : List (List ℕ)) (cs : List ConditionTree) : Type 0 where
    pub conditions : List Condition
    pub are : AreConditionsOf block symbols names cs conditions

  conditions_meant : (variables : List (List ℕ)) (table : List (List ℕ × ℕ)) (names : List (List ℕ)) (rule number : ℕ) (cs : List ConditionTree)
      → conditions_refusal block table names rule number cs ≡ None
      → Extends (with_all_symbols block table (sides cs)) symbols → Extends (with_all_variables block names (sides cs)) variables → ConditionsMeant variables cs
  conditions_meant variables table names rule number [] h e g = record { conditions = []; are = tt }
  conditions_meant variables table names rule number (c ∷ cs) h e g =
      let here = none_first (condition_refusal block table names rule number c) _ h in
      let side = side_of rule number false in
      let middle = with_symbols block table c.left in
      let between = with_variables block names c.left in
      let later = extends_trans _ _ _ (all_symbols_extend block (with_symbols block middle c.right) (sides cs)) e in
      let later_names = extends_trans _ _ _ (all_variables_extend block (with_variables block between c.right) (sides cs)) g in
      let left = term_meant variables table names side 1 0 0 c.left (none_first (side_refusal block table names side c.left) _ here)
      (extends_trans _ _ _ (symbols_extend block middle c.right) later) (extends_trans _ _ _ (variables_extend block between c.right) later_names) in
      let right = term_meant variables middle between side 1 0 0 c.right (none_then (side_refusal block table names side c.left) _ here) later later_names in
      let rest = conditions_meant variables (with_symbols block middle c.right) (with_variables block between c.right) rule (number + 1) cs
      (none_then (condition_refusal block table names rule number c) _ h) e g in
      record { conditions = record { left = left.term; right = right.term } ∷ rest.conditions; are = (left.is, right.is, rest.are) }

  record RuleMeant (t : RuleTree) : Type 0 where
    pub rule : Rule
    pub is : IsRuleOf block symbols t rule

  rule_meant : (typed : Bool) (table : List (List ℕ × ℕ)) (number : ℕ) (t : RuleTree) → rule_refusal block typed table number t ≡ None
      → Extends (with_all_symbols block table (phrases_of_rule t)) symbols → RuleMeant t
  rule_meant typed table number t h e =
      let names = rule_variables block t in
      let second = with_symbols block (with_symbols block table t.left) t.right in
      let second_names = with_variables block (with_variables block [] t.left) t.right in
      let late = extends_trans _ _ _ (all_symbols_extend block second (sides (conditions_of t))) e in
      let late_names : Extends second_names names = all_variables_extend block second_names (sides (conditions_of t)) in
      let left = term_meant names table [] (side_of number 0 true) 1 0 0 t.left (left_accepted block typed table number t h)
      (extends_trans _ _ _ (symbols_extend block (with_symbols block table t.left) t.right) late) (extends_trans _ _ _ (variables_extend block (with_variables block [] t.left) t.right) late_names) in
      let right = term_meant names (with_symbols block table t.left) (with_variables block [] t.left) (side_of number 0 false) 1 0 0 t.right
      (right_accepted block typed table number t h) late late_names in
      let last = conditions_meant names second second_names number 1 (conditions_of t) (conditions_accepted block typed table number t h) e (extends_refl names) in
      record { rule = record { left = left.term; right = right.term; conditions = last.conditions }; is = record { left = left.is; right = right.is; conditions = last.are } }

  record RulesMeant (ts : List RuleTree) : Type 0 where
    pub rules : List Rule
    pub are : AreRulesOf block symbols ts rules

  rules_meant : (typed : Bool) (table : List (List ℕ × ℕ)) (number : ℕ) (ts : List RuleTree) → rules_refusal block typed table number ts ≡ None
      → Extends (with_rule_symbols block table ts) symbols → RulesMeant ts
  rules_meant typed table number [] h e = record { rules = []; are = tt }
  rules_meant typed table number (t ∷ ts) h e =
      let next = with_all_symbols block table (phrases_of_rule t) in
      let first = rule_meant typed table number t (none_first _ _ h) (extends_trans _ _ _ (rule_symbols_extend block next ts) e) in
      let later = rules_meant typed next (number + 1) ts (none_then (rule_refusal block typed table number t) _ h) e in
      record { rules = first.rule ∷ later.rules; are = (first.is, later.are) }

pub record IsMeaning (file : FileTree) : Type 0 where
  pub system : System
  pub names : NameTable
  pub is : IsSystemOf file system names

pub meaning : (file : FileTree) → refusal_of file ≡ None → IsMeaning file
meaning file accepted =
    let block = variables_of file in
    let table = with_rule_symbols block [] file.rules in
    let m = rules_meant block table (has_type file) [] 1 file.rules (sym (refusal_is file) ∙ accepted) (extends_refl table) in
    record {
      system = system_of (map (λ s. s.1) table) m.rules;
      names = record { symbols = table; variables = map (rule_variables block) file.rules };
      is = record { accepted = accepted; symbols = refl; arities = refl; own = refl; variables = refl; rules = m.are };
    }
