-- What is not refused is within the limits.
use Rattle.std.proofs.Common.{◌≡◌, ℕ, suc, ◌+◌, ◌<◌, ◌≤◌, Bool, true, false, List, [], ◌∷◌, ◌++◌, length, map, Option, Some, None, All, refl, sym, ap, subst, ◌∙◌, arith, length-append}
use Rattle.std.specs.Prelude.{if◌then◌else◌, is_some, option_map}
use Rattle.std.proofs.lemmas.Bool.Decides.{nat_tests}
use Rattle.std.proofs.lemmas.List.Elements.{All-nil, All-cons, All-push}
use Rattle.std.specs.Option.{option_or}
use Rattle.file_text.specs.Syntax.{Phrase, Phrases, word, call, none, more, count, ConditionTree, Guard, RuleTree, conditions_of, guarded, FileTree, has_type}
use Rattle.rewriting.specs.Prelude.{Term, var, app, Terms, nil, cons, size, size_all, depth, depth_all, IsVariable, Condition, Rule, System, Each}
use Rattle.rewriting.specs.Rules as rules
use Rattle.cops_names.specs.NameTable.{NameTable, number_of}
use Rattle.cops_names.specs.NameLists.{is_among, with_name}
use Rattle.cops_read.specs.Meaning.{with_symbol, sides, phrases_of_rule, variables_of, with_variables, with_all_variables, with_symbols, with_all_symbols, with_rule_symbols}
use Rattle.cops_read.specs.Meaning.{rule_variables, IsTermOf, AreTermsOf, AreConditionsOf, IsRuleOf, AreRulesOf}
use Rattle.cops_read.specs.Uses.{Side, side_of, Use}
use Rattle.cops_read.specs.Refusals.{limit_cause, variable_cause, symbol_cause, known_symbol_cause, arity_in, cause_at}
use Rattle.cops_read.specs.Walks.{nodes, all_nodes, use_at}
use Rattle.cops_read.specs.Steps.{term_refusal, terms_refusal}
use Rattle.cops_read.specs.RuleSteps.{side_refusal, condition_refusal, conditions_refusal, bar_refusal, rule_refusal, rules_refusal}
use Rattle.cops_read.specs.Limits.{IsSmall, IsAllowed, IsWithinLimits}
use Rattle.cops_read.specs.File.{IsSystemOf}
use Rattle.cops_read.proofs.Phrases.{head_of}
use Rattle.cops_read.proofs.Firsts.{none_first, none_then, no_cause, no_later}
use Rattle.cops_read.proofs.Events.{refusal_is}

pub record IsWithin (u : Use) : Type 0 where
  pub rules : u.side.rule ≤ 1000
  pub conditions : u.side.condition ≤ 20
  pub arguments : u.spot.argument ≤ 20
  pub depth : u.spot.depth ≤ 200
  pub number : u.number ≤ 2000

pub is_within : (u : Use) → limit_cause u ≡ None → IsWithin u
is_within u h = record {
  rules = grind (arith, nat_tests);
  conditions = grind (arith, nat_tests);
  arguments = grind (arith, nat_tests);
  depth = grind (arith, nat_tests);
  number = grind (arith, nat_tests);
}

few_variables : (names : List (List ℕ)) (u : Use) → variable_cause names u ≡ None → is_among names u.spot.node.name.text ≡ false → length names < 100
few_variables names u h b = grind (arith, nat_tests)

no_left : (names : List (List ℕ)) (u : Use) → variable_cause names u ≡ None → u.side.is_left ≡ true → u.spot.depth ≡ 1 → ⊥
no_left names u h l d = grind (arith, nat_tests)

few_symbols : (table : List (List ℕ × ℕ)) (u : Use) → symbol_cause table u ≡ None → number_of table u.spot.node.name.text ≡ None → length table < 1000
few_symbols table u h n =
    let h' : known_symbol_cause table u None ≡ None = sym (ap (λ (o : Option ℕ). known_symbol_cause table u (arity_in table o)) n) ∙ h in
    grind (arith, nat_tests)

-- a table of symbols within the limits
pub record IsTable (table : List (List ℕ × ℕ)) : Type 0 where
  pub few : length table ≤ 1000
  pub arguments : All (λ s. s.1 ≤ 20) table

symbol_kept : (table : List (List ℕ × ℕ)) (u : Use) → symbol_cause table u ≡ None → u.spot.node.arguments ≤ 20 → IsTable table → IsTable (with_symbol table u.spot.node.name.text u.spot.node.arguments)
symbol_kept table u h small t = by (number_of table u.spot.node.name.text) refl
  where
    by : (o : Option ℕ) → number_of table u.spot.node.name.text ≡ o → IsTable (if is_some o then table else (table ++ (u.spot.node.name.text, u.spot.node.arguments) ∷ []))
    by (Some f) e = t
    by None e =
        let less = few_symbols table u h e in
        record {
          few = omega (arith, length-append table ((u.spot.node.name.text, u.spot.node.arguments) ∷ []));
          arguments = All-push (λ (s : List ℕ × ℕ). s.1 ≤ 20) table (u.spot.node.name.text, u.spot.node.arguments) t.arguments small;
        }

-- one name more, where there is room if it is new
pub name_kept : (names : List (List ℕ)) (name : List ℕ) → length names ≤ 100 → (is_among names name ≡ false → length names < 100) → length (with_name names name) ≤ 100
name_kept names name few room = by (is_among names name) refl
  where
    by : (b : Bool) → is_among names name ≡ b → length (if b then names else (names ++ name ∷ [])) ≤ 100
    by true e = few
    by false e = let less = room e in omega (arith, length-append names (name ∷ []))

variable_kept : (names : List (List ℕ)) (u : Use) → variable_cause names u ≡ None → length names ≤ 100 → length (with_name names u.spot.node.name.text) ≤ 100
variable_kept names u h few = name_kept names u.spot.node.name.text few (few_variables names u h)

module _ (block : List (List ℕ)) where
  within : (table : List (List ℕ × ℕ)) (names : List (List ℕ)) (u : Use) → cause_at block table names u ≡ None → IsWithin u
  within table names u h = is_within u (none_first (limit_cause u) _ h)

  of_name : (table : List (List ℕ × ℕ)) (names : List (List ℕ)) (u : Use) → cause_at block table names u ≡ None
      → (if is_among block u.spot.node.name.text then variable_cause names u else symbol_cause table u) ≡ None
  of_name table names u h = none_then (limit_cause u) _ h

  as_variable : (table : List (List ℕ × ℕ)) (names : List (List ℕ)) (u : Use) → cause_at block table names u ≡ None → is_among block u.spot.node.name.text ≡ true → variable_cause names u ≡ None
  as_variable table names u h b = rw b at (of_name table names u h)

  pub as_symbol : (table : List (List ℕ × ℕ)) (names : List (List ℕ)) (u : Use) → cause_at block table names u ≡ None → is_among block u.spot.node.name.text ≡ false → symbol_cause table u ≡ None
  as_symbol table names u h b = rw b at (of_name table names u h)

  pub no_brackets : (table : List (List ℕ × ℕ)) (names : List (List ℕ)) (u : Use) → cause_at block table names u ≡ None → u.spot.node.brackets ≡ true → is_among block u.spot.node.name.text ≡ false
  no_brackets table names u h e = by (is_among block u.spot.node.name.text) (of_name table names u h)
    where
      by : (b : Bool) → (if b then variable_cause names u else symbol_cause table u) ≡ None → b ≡ false
      by true g = let g' = rw e at g in cc
      by false g = refl

  -- the head of a phrase
  abbrev pub head_use : Side → ℕ → ℕ → ℕ → Phrase → Use
  head_use side depth argument before p = use_at side depth argument before (head_of p)

  pub head_accepted : (table : List (List ℕ × ℕ)) (names : List (List ℕ)) (side : Side) (depth argument before : ℕ) (p : Phrase) → term_refusal block table names side depth argument before p ≡ None
      → cause_at block table names (head_use side depth argument before p) ≡ None
  head_accepted table names side depth argument before (word f) h = no_cause _ _ _ h
  head_accepted table names side depth argument before (call f ts) h = no_cause _ _ _ h

  pub head_within : (table : List (List ℕ × ℕ)) (names : List (List ℕ)) (side : Side) (depth argument before : ℕ) (p : Phrase) → term_refusal block table names side depth argument before p ≡ None
      → IsWithin (head_use side depth argument before p)
  head_within table names side depth argument before p h = within table names (head_use side depth argument before p) (head_accepted table names side depth argument before p h)

  -- arguments from a number on
  few_arguments : (table : List (List ℕ × ℕ)) (names : List (List ℕ)) (side : Side) (depth argument before : ℕ) (ps : Phrases) → terms_refusal block table names side depth argument before ps ≡ None
      → argument ≤ 21 → argument + count ps ≤ 21
  few_arguments table names side depth argument before none h l = omega arith
  few_arguments table names side depth argument before (more t ts) h l =
      let w = head_within table names side depth argument before t (none_first _ _ h) in
      let here = w.arguments in
      let rest = few_arguments (with_symbols block table t) (with_variables block names t) side depth (argument + 1) (before + nodes t) ts
      (none_then (term_refusal block table names side depth argument before t) _ h) (omega arith) in
      omega arith

  mutual
    symbols_kept : (table : List (List ℕ × ℕ)) (names : List (List ℕ)) (side : Side) (depth argument before : ℕ) (p : Phrase) → term_refusal block table names side depth argument before p ≡ None
        → IsTable table → IsTable (with_symbols block table p)
    symbols_kept table names side depth argument before (word f) h t = by (is_among block f.text) refl
      where
        u : Use
        u = head_use side depth argument before (word f)

        by : (b : Bool) → is_among block f.text ≡ b → IsTable (if b then table else with_symbol table f.text 0)
        by true e = t
        by false e = symbol_kept table (head_use side depth argument before (word f)) (as_symbol table names (head_use side depth argument before (word f)) (no_cause _ _ _ h) e) (omega arith) t
    symbols_kept table names side depth argument before (call f ts) h t =
        let u = head_use side depth argument before (call f ts) in
        let cause = no_cause (cause_at block table names u) f.at _ h in
        let few = few_arguments (with_symbol table f.text (count ts)) names side (depth + 1) 1 (before + 1) ts (no_later (cause_at block table names u) f.at _ h) (omega arith) in
        all_symbols_kept (with_symbol table f.text (count ts)) names side (depth + 1) 1 (before + 1) ts (no_later (cause_at block table names u) f.at _ h)
        (symbol_kept table u (as_symbol table names u cause (no_brackets table names u cause refl)) (omega arith) t)

    all_symbols_kept : (table : List (List ℕ × ℕ)) (names : List (List ℕ)) (side : Side) (depth argument before : ℕ) (ps : Phrases)
        → terms_refusal block table names side depth argument before ps ≡ None
        → IsTable table → IsTable (with_all_symbols block table ps)
    all_symbols_kept table names side depth argument before none h t = t
    all_symbols_kept table names side depth argument before (more p ps) h t =
        all_symbols_kept (with_symbols block table p) (with_variables block names p) side depth (argument + 1) (before + nodes p) ps (none_then _ _ h)
        (symbols_kept table names side depth argument before p (none_first _ _ h) t)

  mutual
    variables_kept : (table : List (List ℕ × ℕ)) (names : List (List ℕ)) (side : Side) (depth argument before : ℕ) (p : Phrase) → term_refusal block table names side depth argument before p ≡ None
        → length names ≤ 100 → length (with_variables block names p) ≤ 100
    variables_kept table names side depth argument before (word f) h few = by (is_among block f.text) refl
      where
        by : (b : Bool) → is_among block f.text ≡ b → length (if b then with_name names f.text else names) ≤ 100
        by true e = variable_kept names (head_use side depth argument before (word f)) (as_variable table names (head_use side depth argument before (word f)) (no_cause _ _ _ h) e) few
        by false e = few
    variables_kept table names side depth argument before (call f ts) h few =
        all_variables_kept (with_symbol table f.text (count ts)) names side (depth + 1) 1 (before + 1) ts (no_later _ f.at _ h) few

    all_variables_kept : (table : List (List ℕ × ℕ)) (names : List (List ℕ)) (side : Side) (depth argument before : ℕ) (ps : Phrases)
        → terms_refusal block table names side depth argument before ps ≡ None
        → length names ≤ 100 → length (with_all_variables block names ps) ≤ 100
    all_variables_kept table names side depth argument before none h few = few
    all_variables_kept table names side depth argument before (more p ps) h few =
        all_variables_kept (with_symbols block table p) (with_variables block names p) side depth (argument + 1) (before + nodes p) ps (none_then _ _ h)
        (variables_kept table names side depth argument before p (none_first _ _ h) few)

  -- what an accepted phrase means is small
  module _ (symbols : List (List ℕ × ℕ)) (variables : List (List ℕ)) where
    mutual
      nodes_is : (p : Phrase) (t : Term) → IsTermOf block symbols variables p t → size t ≡ nodes p
      nodes_is (word f) (var x) h = refl
      nodes_is (word f) (app k us) h = ap (λ (ts : Terms). suc (size_all ts)) h.1
      nodes_is (call f ts) (var x) h = absurd h
      nodes_is (call f ts) (app k us) h = ap suc (all_nodes_is ts us h.1)

      all_nodes_is : (ps : Phrases) (ts : Terms) → AreTermsOf block symbols variables ps ts → size_all ts ≡ all_nodes ps
      all_nodes_is none nil h = refl
      all_nodes_is none (cons t ts) h = absurd h
      all_nodes_is (more p ps) nil h = absurd h
      all_nodes_is (more p ps) (cons t ts) h = let a = nodes_is p t h.0 in let b = all_nodes_is ps ts h.1 in omega arith

    mutual
      term_small : (table : List (List ℕ × ℕ)) (names : List (List ℕ)) (side : Side) (level argument before : ℕ) (p : Phrase) (t : Term)
          → term_refusal block table names side level argument before p ≡ None
          → IsTermOf block symbols variables p t → (before + size t ≤ 2000) × (level + depth t ≤ 201)
      term_small table names side level argument before (word f) (var x) h m = let w = head_within table names side level argument before (word f) h in (omega arith, omega arith)
      term_small table names side level argument before (word f) (app k us) h m =
          let w = head_within table names side level argument before (word f) h in
          let s = ap size_all m.1 in
          let d = ap depth_all m.1 in
          (omega arith, omega arith)
      term_small table names side level argument before (call f ts) (var x) h m = absurd m
      term_small table names side level argument before (call f ts) (app k us) h m =
          let w = head_within table names side level argument before (call f ts) h in
          let rest = terms_small (with_symbol table f.text (count ts)) names side (level + 1) 1 (before + 1) ts us
          (no_later (cause_at block table names (head_use side level argument before (call f ts))) f.at _ h) m.1 (omega arith) (omega arith) in
          (omega arith, omega arith)

      terms_small : (table : List (List ℕ × ℕ)) (names : List (List ℕ)) (side : Side) (level argument before : ℕ) (ps : Phrases) (ts : Terms)
          → terms_refusal block table names side level argument before ps ≡ None
          → AreTermsOf block symbols variables ps ts → before ≤ 2000 → level ≤ 201 → (before + size_all ts ≤ 2000) × (level + depth_all ts ≤ 201)
      terms_small table names side level argument before none nil h m b l = (omega arith, omega arith)
      terms_small table names side level argument before none (cons t ts) h m b l = absurd m
      terms_small table names side level argument before (more p ps) nil h m b l = absurd m
      terms_small table names side level argument before (more p ps) (cons t ts) h m b l =
          let first = term_small table names side level argument before p t (none_first _ _ h) m.0 in
          let same = nodes_is p t m.0 in
          let rest = terms_small (with_symbols block table p) (with_variables block names p) side level (argument + 1) (before + nodes p) ps ts
          (none_then (term_refusal block table names side level argument before p) _ h) m.1 (omega arith) (omega arith) in
          (omega arith, omega arith)

    side_small : (table : List (List ℕ × ℕ)) (names : List (List ℕ)) (side : Side) (p : Phrase) (t : Term) → side_refusal block table names side p ≡ None
        → IsTermOf block symbols variables p t → IsSmall t
    side_small table names side p t h m = let s = term_small table names side 1 0 0 p t h m in record { nodes = omega arith; levels = omega arith }

    left_side : (table : List (List ℕ × ℕ)) (names : List (List ℕ)) (number : ℕ) (p : Phrase) (t : Term) → side_refusal block table names (side_of number 0 true) p ≡ None
        → IsTermOf block symbols variables p t → IsVariable t → ⊥
    left_side table names number (word f) (var x) h m v =
        no_left names (head_use (side_of number 0 true) 1 0 0 (word f)) (as_variable table names (head_use (side_of number 0 true) 1 0 0 (word f)) (no_cause _ _ _ h) m.0) refl refl
    left_side table names number (call f ts) (var x) h m v = m
    left_side table names number p (app k us) h m v = v

    conditions_small : (table : List (List ℕ × ℕ)) (names : List (List ℕ)) (rule number : ℕ) (cs : List ConditionTree) (ds : List Condition)
        → conditions_refusal block table names rule number cs ≡ None
        → AreConditionsOf block symbols variables cs ds → Each IsSmall (rules.sides ds)
    conditions_small table names rule number [] [] h m = tt
    conditions_small table names rule number [] (d ∷ ds) h m = absurd m
    conditions_small table names rule number (c ∷ cs) [] h m = absurd m
    conditions_small table names rule number (c ∷ cs) (d ∷ ds) h m =
        let here = none_first (condition_refusal block table names rule number c) _ h in (
          side_small table names (side_of rule number false) c.left d.left (none_first _ _ here) m.0,
          (
            side_small (with_symbols block table c.left) (with_variables block names c.left) (side_of rule number false) c.right d.right (none_then _ _ here) m.1,
            conditions_small (with_symbols block (with_symbols block table c.left) c.right) (with_variables block (with_variables block names c.left) c.right) rule
                (number + 1) cs ds (none_then _ _ h) m.2,
          ),
        )

    few_conditions : (table : List (List ℕ × ℕ)) (names : List (List ℕ)) (rule number : ℕ) (cs : List ConditionTree) (ds : List Condition) → conditions_refusal block table names rule number cs ≡ None
        → AreConditionsOf block symbols variables cs ds → number ≤ 21 → number + length ds ≤ 21
    few_conditions table names rule number [] [] h m l = omega arith
    few_conditions table names rule number [] (d ∷ ds) h m l = absurd m
    few_conditions table names rule number (c ∷ cs) [] h m l = absurd m
    few_conditions table names rule number (c ∷ cs) (d ∷ ds) h m l =
        let here = none_first (condition_refusal block table names rule number c) _ h in
        let w = head_within table names (side_of rule number false) 1 0 0 c.left (none_first _ _ here) in
        let few = w.conditions in
        let rest = few_conditions (with_symbols block (with_symbols block table c.left) c.right) (with_variables block (with_variables block names c.left) c.right) rule
        (number + 1) cs ds (none_then (condition_refusal block table names rule number c) _ h) m.2 (omega arith) in
        omega arith

    no_conditions : (typed : Bool) (guard : Option Guard) (ds : List Condition) → bar_refusal typed (option_map (λ g. g.at) guard) ≡ None
        → AreConditionsOf block symbols variables (guarded guard) ds → typed ≡ false → ds ≡ []
    no_conditions typed None [] h m e = refl
    no_conditions typed None (d ∷ ds) h m e = absurd m
    no_conditions true (Some g) ds h m e = absurd cc
    no_conditions false (Some g) ds h m e = absurd cc

  -- what each term that is not refused keeps of the symbols and variables so far
  abbrev IsKept : (List (List ℕ × ℕ) → List (List ℕ) → Type 0) → Type 0
  IsKept P = (table : List (List ℕ × ℕ)) (names : List (List ℕ)) (side : Side) (p : Phrase) → term_refusal block table names side 1 0 0 p ≡ None
      → P table names → P (with_symbols block table p) (with_variables block names p)

  conditions_keep : (P : List (List ℕ × ℕ) → List (List ℕ) → Type 0) → IsKept P → (table : List (List ℕ × ℕ)) (names : List (List ℕ)) (rule number : ℕ) (cs : List ConditionTree)
      → conditions_refusal block table names rule number cs ≡ None → P table names → P (with_all_symbols block table (sides cs)) (with_all_variables block names (sides cs))
  conditions_keep P kept table names rule number [] h t = t
  conditions_keep P kept table names rule number (c ∷ cs) h t =
      let here = none_first (condition_refusal block table names rule number c) _ h in
      let side = side_of rule number false in
      let left = kept table names side c.left (none_first _ _ here) t in
      let right = kept (with_symbols block table c.left) (with_variables block names c.left) side c.right (none_then _ _ here) left in
      conditions_keep P kept (with_symbols block (with_symbols block table c.left) c.right) (with_variables block (with_variables block names c.left) c.right) rule
      (number + 1) cs (none_then _ _ h) right

  module _ (typed : Bool) (table : List (List ℕ × ℕ)) (number : ℕ) (t : RuleTree) (h : rule_refusal block typed table number t ≡ None) where
    pub left_accepted : side_refusal block table [] (side_of number 0 true) t.left ≡ None
    left_accepted = none_first _ _ h

    pub right_accepted : side_refusal block (with_symbols block table t.left) (with_variables block [] t.left) (side_of number 0 false) t.right ≡ None
    right_accepted = none_first _ _ (none_then (side_refusal block table [] (side_of number 0 true) t.left) _ h)

    late : option_or (bar_refusal typed (option_map (λ g. g.at) t.guard))
        (conditions_refusal block (with_symbols block (with_symbols block table t.left) t.right) (with_variables block (with_variables block [] t.left) t.right) number 1 (conditions_of t)) ≡ None
    late = none_then (side_refusal block (with_symbols block table t.left) (with_variables block [] t.left) (side_of number 0 false) t.right) _
        (none_then (side_refusal block table [] (side_of number 0 true) t.left) _ h)

    pub conditions_accepted : conditions_refusal block (with_symbols block (with_symbols block table t.left) t.right)
        (with_variables block (with_variables block [] t.left) t.right) number 1 (conditions_of t) ≡ None
    conditions_accepted = none_then (bar_refusal typed (option_map (λ (g : Guard). g.at) t.guard)) _ late

    rule_keeps : (P : List (List ℕ × ℕ) → List (List ℕ) → Type 0) → IsKept P → P table [] → P (with_all_symbols block table (phrases_of_rule t)) (rule_variables block t)
    rule_keeps P kept is =
        conditions_keep P kept (with_symbols block (with_symbols block table t.left) t.right) (with_variables block (with_variables block [] t.left) t.right) number 1
        (conditions_of t) conditions_accepted
        (kept (with_symbols block table t.left) (with_variables block [] t.left) (side_of number 0 false) t.right right_accepted
        (kept table [] (side_of number 0 true) t.left left_accepted is))

    rule_table : IsTable table → IsTable (with_all_symbols block table (phrases_of_rule t))
    rule_table = rule_keeps (λ u names. IsTable u) (λ u names side p. symbols_kept u names side 1 0 0 p)

    rule_few : length (rule_variables block t) ≤ 100
    rule_few = rule_keeps (λ u names. length names ≤ 100) (λ u names side p. variables_kept u names side 1 0 0 p) (omega arith)

    rule_allowed : (symbols : List (List ℕ × ℕ)) (r : Rule) → IsRuleOf block symbols t r → IsAllowed typed r
    rule_allowed symbols r m =
        let few = few_conditions symbols (rule_variables block t) _ _ number 1 (conditions_of t) r.conditions conditions_accepted m.conditions (omega arith) in
        record {
          left = left_side symbols (rule_variables block t) table [] number t.left r.left left_accepted m.left;
          terms = (
            side_small symbols (rule_variables block t) table [] (side_of number 0 true) t.left r.left left_accepted m.left,
            (
              side_small symbols (rule_variables block t) _ _ (side_of number 0 false) t.right r.right right_accepted m.right,
              conditions_small symbols (rule_variables block t) _ _ number 1 (conditions_of t) r.conditions conditions_accepted m.conditions,
            ),
          );
          few_conditions = omega arith;
          conditions = no_conditions symbols (rule_variables block t) typed t.guard r.conditions (none_first _ _ late) m.conditions;
        }

  rules_table : (typed : Bool) (table : List (List ℕ × ℕ)) (number : ℕ) (ts : List RuleTree) → rules_refusal block typed table number ts ≡ None → IsTable table
      → IsTable (with_rule_symbols block table ts)
  rules_table typed table number [] h is = is
  rules_table typed table number (t ∷ ts) h is =
      rules_table typed (with_all_symbols block table (phrases_of_rule t)) (number + 1) ts (none_then (rule_refusal block typed table number t) _ h)
      (rule_table typed table number t (none_first _ _ h) is)

  rules_variables : (typed : Bool) (table : List (List ℕ × ℕ)) (number : ℕ) (ts : List RuleTree) → rules_refusal block typed table number ts ≡ None
      → All (λ list. length list ≤ 100) (map (rule_variables block) ts)
  rules_variables typed table number [] h = All-nil (λ (list : List (List ℕ)). length list ≤ 100)
  rules_variables typed table number (t ∷ ts) h =
      All-cons (λ list. length list ≤ 100) (rule_variables block t) (map (rule_variables block) ts) (rule_few typed table number t (none_first _ _ h))
      (rules_variables typed (with_all_symbols block table (phrases_of_rule t)) (number + 1) ts (none_then (rule_refusal block typed table number t) _ h))

  rules_allowed : (typed : Bool) (symbols table : List (List ℕ × ℕ)) (number : ℕ) (ts : List RuleTree) (rs : List Rule) → rules_refusal block typed table number ts ≡ None
      → AreRulesOf block symbols ts rs → All (IsAllowed typed) rs
  rules_allowed typed symbols table number ts [] h m = All-nil (IsAllowed typed)
  rules_allowed typed symbols table number [] (r ∷ rs) h m = absurd m
  rules_allowed typed symbols table number (t ∷ ts) (r ∷ rs) h m =
      All-cons (IsAllowed typed) r rs (rule_allowed typed table number t (none_first _ _ h) symbols r m.0)
      (rules_allowed typed symbols (with_all_symbols block table (phrases_of_rule t)) (number + 1) ts rs (none_then (rule_refusal block typed table number t) _ h) m.1)

  few_rules : (typed : Bool) (symbols table : List (List ℕ × ℕ)) (number : ℕ) (ts : List RuleTree) (rs : List Rule) → rules_refusal block typed table number ts ≡ None
      → AreRulesOf block symbols ts rs → number ≤ 1001 → number + length rs ≤ 1001
  few_rules typed symbols table number [] [] h m l = omega arith
  few_rules typed symbols table number [] (r ∷ rs) h m l = absurd m
  few_rules typed symbols table number (t ∷ ts) [] h m l = absurd m
  few_rules typed symbols table number (t ∷ ts) (r ∷ rs) h m l =
      let w = head_within table [] (side_of number 0 true) 1 0 0 t.left (left_accepted typed table number t (none_first _ _ h)) in
      let few = w.rules in
      let rest = few_rules typed symbols (with_all_symbols block table (phrases_of_rule t)) (number + 1) ts rs (none_then (rule_refusal block typed table number t) _ h) m.1 (omega arith) in
      omega arith

abbrev empty : List (List ℕ × ℕ)
empty = []

none_yet : IsTable empty
none_yet = record { few = omega arith; arguments = All-nil (λ (s : List ℕ × ℕ). s.1 ≤ 20) }

pub is_within_limits : (file : FileTree) (sys : System) (names : NameTable) → IsSystemOf file sys names → IsWithinLimits (has_type file) sys names
is_within_limits file sys names h =
    let accepted = sym (refusal_is file) ∙ h.accepted in
    let table = rules_table (variables_of file) (has_type file) [] 1 file.rules accepted none_yet in
    let few = few_rules (variables_of file) (has_type file) names.symbols [] 1 file.rules sys.rules accepted h.rules (omega arith) in
    record {
      few_rules = omega arith;
      few_symbols = subst (λ (t : List (List ℕ × ℕ)). length t ≤ 1000) (sym h.symbols) table.few;
      few_arguments = subst (All (λ (s : List ℕ × ℕ). s.1 ≤ 20)) (sym h.symbols) table.arguments;
      few_variables = subst (All (λ (list : List (List ℕ)). length list ≤ 100)) (sym h.variables) (rules_variables (variables_of file) (has_type file) [] 1 file.rules accepted);
      rules = rules_allowed (variables_of file) (has_type file) names.symbols [] 1 file.rules sys.rules accepted h.rules;
    }
