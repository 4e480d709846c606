-- The first refusal among the events of a file is the one that is found part by part.
use Rattle.std.proofs.Common.{◌≡◌, ℕ, suc, ◌+◌, ◌≤◌, Bool, true, false, List, [], ◌∷◌, ◌++◌, length, Option, Some, None, refl, sym, ap, ap₂, subst, ◌∙◌, arith, append_assoc}
use Rattle.std.proofs.Common.{append-nil, length-append, eq-eqb, ne_eqb}
use Rattle.std.specs.Prelude.{◌==◌, ◌&&◌, if◌then◌else◌, option_map}
use Rattle.std.specs.Option.{option_or}
use Rattle.file_text.specs.Syntax.{Phrase, Phrases, word, call, none, more, count, ConditionTree, Guard, RuleTree, conditions_of, FileTree, has_type}
use Rattle.cops_names.specs.NameLists.{is_among, with_name}
use Rattle.cops_read.specs.Meaning.{with_symbol, with_symbols, with_all_symbols, with_variables, with_all_variables, sides, phrases_of_rule, variables_of}
use Rattle.cops_read.specs.Uses.{Spot, spots, spots_of_all, Side, side_of, Use, Event, use_of, bar_at, uses_from, term_events, condition_events, rule_events, rules_events}
use Rattle.cops_read.specs.Refusals.{MeaningCause, conditions_without_type, limit_cause, variable_cause, symbol_cause, first_or, symbols_used, variables_used, cause_at, first_refusal, refusal_of}
use Rattle.cops_read.specs.Walks.{nodes, all_nodes, use_at}
use Rattle.cops_read.specs.Steps.{term_refusal, terms_refusal}
use Rattle.cops_read.specs.RuleSteps.{side_refusal, condition_refusal, conditions_refusal, bar_refusal, rule_refusal, rules_refusal}
use Rattle.cops_read.proofs.Firsts.{or_assoc, or_same, none_first, none_then, first_or_or}

abbrev Refused : Type 0
Refused = Option (MeaningCause × ℕ)

abbrev Table : Type 0
Table = List (List ℕ × ℕ)

abbrev Names : Type 0
Names = List (List ℕ)

pub uses_after : (side : Side) (n : ℕ) (xs ys : List Spot) → uses_from side n (xs ++ ys) ≡ uses_from side n xs ++ uses_from side (n + length xs) ys
uses_after side n [] ys = ap (λ (k : ℕ). uses_from side k ys) (let e : n ≡ n + 0 = omega arith in e)
uses_after side n (x ∷ xs) ys =
    ap (λ (es : List Event). use_of record { side = side; spot = x; number = n } ∷ es)
    (uses_after side (suc n) xs ys ∙ ap (λ (k : ℕ). uses_from side (suc n) xs ++ uses_from side k ys) (let e : suc n + length xs ≡ n + suc (length xs) = omega arith in e))

mutual
  pub spots_length : (depth argument : ℕ) (p : Phrase) → length (spots depth argument p) ≡ nodes p
  spots_length depth argument (word f) = refl
  spots_length depth argument (call f ts) = ap suc (all_spots_length (suc depth) 1 ts)

  all_spots_length : (depth argument : ℕ) (ps : Phrases) → length (spots_of_all depth argument ps) ≡ all_nodes ps
  all_spots_length depth argument none = refl
  all_spots_length depth argument (more t ts) =
      let a = spots_length depth argument t in
      let b = all_spots_length depth (suc argument) ts in
      omega (arith, length-append (spots depth argument t) (spots_of_all depth (suc argument) ts))

module _ (block : Names) where
  symbols_after : (table : Table) (xs ys : List Event) → symbols_used block table (xs ++ ys) ≡ symbols_used block (symbols_used block table xs) ys
  symbols_after table [] ys = refl
  symbols_after table (bar_at at ∷ xs) ys = symbols_after table xs ys
  symbols_after table (use_of u ∷ xs) ys = symbols_after (if is_among block u.spot.node.name.text then table else with_symbol table u.spot.node.name.text u.spot.node.arguments) xs ys

  pub variables_after : (rule : ℕ) (names : Names) (xs ys : List Event) → variables_used block rule names (xs ++ ys) ≡ variables_used block rule (variables_used block rule names xs) ys
  variables_after rule names [] ys = refl
  variables_after rule names (bar_at at ∷ xs) ys = variables_after rule names xs ys
  variables_after rule names (use_of u ∷ xs) ys =
      variables_after rule (if (u.side.rule == rule) && is_among block u.spot.node.name.text then with_name names u.spot.node.name.text else names) xs ys

  module _ (typed : Bool) where
    refusal_after : (front xs ys : List Event) → first_refusal block typed front (xs ++ ys) ≡ option_or (first_refusal block typed front xs) (first_refusal block typed (front ++ xs) ys)
    refusal_after front [] ys = ap (λ (f : List Event). first_refusal block typed f ys) (sym (append-nil front))
    refusal_after front (use_of u ∷ xs) ys =
        ap (first_or (cause_at block (symbols_used block [] front) (variables_used block u.side.rule [] front) u) u.spot.node.name.at) (refusal_after (front ++ use_of u ∷ []) xs ys)
        ∙ first_or_or (cause_at block (symbols_used block [] front) (variables_used block u.side.rule [] front) u) u.spot.node.name.at _ _
        ∙ ap (λ (f : List Event). option_or (first_or (cause_at block (symbols_used block [] front) (variables_used block u.side.rule [] front) u) u.spot.node.name.at
        (first_refusal block typed (front ++ use_of u ∷ []) xs)) (first_refusal block typed f ys)) (append_assoc front (use_of u ∷ []) xs)
    refusal_after front (bar_at at ∷ xs) ys =
        ap (first_or (if typed then None else Some conditions_without_type) at) (refusal_after (front ++ bar_at at ∷ []) xs ys)
        ∙ first_or_or (if typed then None else Some conditions_without_type) at _ _
        ∙ ap (λ (f : List Event). option_or (first_or (if typed then None else Some conditions_without_type) at
        (first_refusal block typed (front ++ bar_at at ∷ []) xs)) (first_refusal block typed f ys)) (append_assoc front (bar_at at ∷ []) xs)

    -- these events of a rule are refused as told, and where they are not they add this to the symbols and to the rule's variables
    pub record IsPart (rule : ℕ) (es : List Event) (refused : Table → Names → Refused) (symbols_with : Table → Table) (names_with : Names → Names) : Type 0 where
      pub refusal : (front : List Event) → first_refusal block typed front es ≡ refused (symbols_used block [] front) (variables_used block rule [] front)
      pub symbols : (table : Table) (names : Names) → refused table names ≡ None → symbols_used block table es ≡ symbols_with table
      pub variables : (table : Table) (names : Names) → refused table names ≡ None → variables_used block rule names es ≡ names_with names
      pub others : (r : ℕ) (names : Names) → (rule == r) ≡ false → variables_used block r names es ≡ names

    part_then : (rule : ℕ) (xs ys : List Event) (f g : Table → Names → Refused) (s t : Table → Table) (v w : Names → Names) → IsPart rule xs f s v → IsPart rule ys g t w
        → IsPart rule (xs ++ ys) (λ table names. option_or (f table names) (g (s table) (v names))) (λ table. t (s table)) (λ names. w (v names))
    part_then rule xs ys f g s t v w p q = record {
      refusal = λ front.
          let table = symbols_used block [] front in
          let names = variables_used block rule [] front in
          refusal_after front xs ys
          ∙ or_same (first_refusal block typed front xs) (f table names) (first_refusal block typed (front ++ xs) ys) (g (s table) (v names)) (p.refusal front)
          (λ h. q.refusal (front ++ xs) ∙ ap₂ g (symbols_after [] front xs ∙ p.symbols table names h) (variables_after rule [] front xs ∙ p.variables table names h));
      symbols = λ table names h.
          symbols_after table xs ys ∙ ap (λ (x : Table). symbols_used block x ys) (p.symbols table names (none_first _ _ h)) ∙ q.symbols (s table) (v names) (none_then _ _ h);
      variables = λ table names h.
          variables_after rule names xs ys ∙ ap (λ (x : Names). variables_used block rule x ys) (p.variables table names (none_first _ _ h)) ∙ q.variables (s table) (v names) (none_then _ _ h);
      others = λ r names h. variables_after r names xs ys ∙ ap (λ (x : Names). variables_used block r x ys) (p.others r names h) ∙ q.others r names h;
    }

    part_none : (rule : ℕ) → IsPart rule [] (λ table names. None) (λ table. table) (λ names. names)
    part_none rule = record { refusal = λ front. refl; symbols = λ table names h. refl; variables = λ table names h. refl; others = λ r names h. refl }

    part_as : (rule : ℕ) (xs ys : List Event) (f g : Table → Names → Refused) (s : Table → Table) (v : Names → Names) → xs ≡ ys → ((table : Table) (names : Names) → f table names ≡ g table names)
        → IsPart rule xs f s v → IsPart rule ys g s v
    part_as rule xs ys f g s v e h p =
        let q : IsPart rule xs g s v = record {
          refusal = λ front. p.refusal front ∙ h _ _;
          symbols = λ table names n. p.symbols table names (h table names ∙ n);
          variables = λ table names n. p.variables table names (h table names ∙ n);
          others = p.others;
        } in
        subst (λ (es : List Event). IsPart rule es g s v) e q

    same_rule : (r : ℕ) (b : Bool) → ((r == r) && b) ≡ b
    same_rule r b = rw (eq-eqb r r refl) refl

    -- an identifier without brackets
    part_word : (u : Use) → u.spot.node.arguments ≡ 0 → IsPart u.side.rule (use_of u ∷ []) (λ table names. first_or (cause_at block table names u) u.spot.node.name.at None)
        (λ table. if is_among block u.spot.node.name.text then table else with_symbol table u.spot.node.name.text 0)
        (λ names. if is_among block u.spot.node.name.text then with_name names u.spot.node.name.text else names)
    part_word u e = record {
      refusal = λ front. refl;
      symbols = λ table names h. ap (λ (n : ℕ). if is_among block u.spot.node.name.text then table else with_symbol table u.spot.node.name.text n) e;
      variables = λ table names h. ap (λ (b : Bool). if b then with_name names u.spot.node.name.text else names) (same_rule u.side.rule (is_among block u.spot.node.name.text));
      others = λ r names h. rw h refl;
    }

    clear : (table : Table) (names : Names) (u : Use) (l : Option MeaningCause) (b : Bool) → u.spot.node.brackets ≡ true
        → option_or l (if b then variable_cause names u else symbol_cause table u) ≡ None → b ≡ false
    clear table names u (Some c) b e h = cc
    clear table names u None true e h = let h' = rw e at h in cc
    clear table names u None false e h = refl

    unnamed : (c : Option MeaningCause) (at : ℕ) → first_or c at None ≡ None → c ≡ None
    unnamed None at h = refl
    unnamed (Some cause) at h = cc

    -- an identifier before brackets
    part_head : (u : Use) → u.spot.node.brackets ≡ true → IsPart u.side.rule (use_of u ∷ []) (λ table names. first_or (cause_at block table names u) u.spot.node.name.at None)
        (λ table. with_symbol table u.spot.node.name.text u.spot.node.arguments) (λ names. names)
    part_head u e = record {
      refusal = λ front. refl;
      symbols = λ table names h. let free = clear table names u (limit_cause u) (is_among block u.spot.node.name.text) e (unnamed _ _ h) in rw free refl;
      variables = λ table names h.
          let free = clear table names u (limit_cause u) (is_among block u.spot.node.name.text) e (unnamed _ _ h) in
          ap (λ (b : Bool). if b then with_name names u.spot.node.name.text else names) (same_rule u.side.rule (is_among block u.spot.node.name.text) ∙ free);
      others = λ r names h. rw h refl;
    }

    mutual
      part_term : (side : Side) (depth argument before : ℕ) (p : Phrase) → IsPart side.rule (uses_from side (suc before) (spots depth argument p))
          (λ table names. term_refusal block table names side depth argument before p) (λ table. with_symbols block table p) (λ names. with_variables block names p)
      part_term side depth argument before (word f) = part_word (use_at side depth argument before record { name = f; brackets = false; arguments = 0 }) refl
      part_term side depth argument before (call f ts) =
          let u = use_at side depth argument before record { name = f; brackets = true; arguments = count ts } in
          let whole = part_then side.rule (use_of u ∷ []) (uses_from side (suc (suc before)) (spots_of_all (suc depth) 1 ts))
          (λ table names. first_or (cause_at block table names u) f.at None) (λ table names. terms_refusal block table names side (suc depth) 1 (suc before) ts)
          (λ table. with_symbol table f.text (count ts)) (λ table. with_all_symbols block table ts) (λ names. names) (λ names. with_all_variables block names ts)
          (part_head u refl) (part_terms side (suc depth) 1 (suc before) ts) in
          part_as side.rule _ _ (λ table names. option_or (first_or (cause_at block table names u) f.at None)
          (terms_refusal block (with_symbol table f.text (count ts)) names side (suc depth) 1 (suc before) ts))
          (λ table names. term_refusal block table names side depth argument before (call f ts)) (λ table. with_symbols block table (call f ts)) (λ names. with_variables block names (call f ts)) refl
          (λ table names.
          sym (first_or_or (cause_at block table names u) f.at None (terms_refusal block (with_symbol table f.text (count ts)) names side (suc depth) 1 (suc before) ts))
          ∙ ap₂ (λ (d b : ℕ). first_or (cause_at block table names u) f.at (terms_refusal block (with_symbol table f.text (count ts)) names side d 1 b ts))
          (let e : suc depth ≡ depth + 1 = omega arith in e) (let e : suc before ≡ before + 1 = omega arith in e)) whole

      part_terms : (side : Side) (depth argument before : ℕ) (ps : Phrases) → IsPart side.rule (uses_from side (suc before) (spots_of_all depth argument ps))
          (λ table names. terms_refusal block table names side depth argument before ps) (λ table. with_all_symbols block table ps) (λ names. with_all_variables block names ps)
      part_terms side depth argument before none = part_none side.rule
      part_terms side depth argument before (more t ts) =
          let first = uses_from side (suc before) (spots depth argument t) in
          let later = uses_from side (suc (before + nodes t)) (spots_of_all depth (suc argument) ts) in
          let number : suc before + length (spots depth argument t) ≡ suc (before + nodes t) = omega (arith, spots_length depth argument t) in
          let split : first ++ later ≡ uses_from side (suc before) (spots_of_all depth argument (more t ts)) =
          sym (uses_after side (suc before) (spots depth argument t) (spots_of_all depth (suc argument) ts)
          ∙ ap (λ (k : ℕ). first ++ uses_from side k (spots_of_all depth (suc argument) ts)) number) in
          let whole = part_then side.rule first later (λ table names. term_refusal block table names side depth argument before t)
          (λ table names. terms_refusal block table names side depth (suc argument) (before + nodes t) ts)
          (λ table. with_symbols block table t) (λ table. with_all_symbols block table ts) (λ names. with_variables block names t) (λ names. with_all_variables block names ts)
          (part_term side depth argument before t) (part_terms side depth (suc argument) (before + nodes t) ts) in
          part_as side.rule (first ++ later) (uses_from side (suc before) (spots_of_all depth argument (more t ts)))
          (λ table names. option_or (term_refusal block table names side depth argument before t)
          (terms_refusal block (with_symbols block table t) (with_variables block names t) side depth (suc argument) (before + nodes t) ts))
          (λ table names. terms_refusal block table names side depth argument before (more t ts)) (λ table. with_all_symbols block table (more t ts))
          (λ names. with_all_variables block names (more t ts)) split
          (λ table names. ap (λ (a : ℕ). option_or (term_refusal block table names side depth argument before t)
          (terms_refusal block (with_symbols block table t) (with_variables block names t) side depth a (before + nodes t) ts)) (let e : suc argument ≡ argument + 1 = omega arith in e)) whole

    part_side : (side : Side) (p : Phrase) → IsPart side.rule (term_events side p) (λ table names. side_refusal block table names side p) (λ table. with_symbols block table p)
        (λ names. with_variables block names p)
    part_side side p = part_term side 1 0 0 p

    part_conditions : (rule number : ℕ) (cs : List ConditionTree) → IsPart rule (condition_events rule number cs)
        (λ table names. conditions_refusal block table names rule number cs) (λ table. with_all_symbols block table (sides cs)) (λ names. with_all_variables block names (sides cs))
    part_conditions rule number [] = part_none rule
    part_conditions rule number (c ∷ cs) =
        let side = side_of rule number false in
        let right = part_then rule (term_events side c.right) (condition_events rule (suc number) cs)
        (λ table names. side_refusal block table names side c.right) (λ table names. conditions_refusal block table names rule (suc number) cs)
        (λ table. with_symbols block table c.right) (λ table. with_all_symbols block table (sides cs)) (λ names. with_variables block names c.right)
        (λ names. with_all_variables block names (sides cs))
        (part_side side c.right) (part_conditions rule (suc number) cs) in
        let whole = part_then rule (term_events side c.left) (term_events side c.right ++ condition_events rule (suc number) cs)
        (λ table names. side_refusal block table names side c.left)
        (λ table names. option_or (side_refusal block table names side c.right) (conditions_refusal block (with_symbols block table c.right) (with_variables block names c.right) rule (suc number) cs))
        (λ table. with_symbols block table c.left) (λ table. with_all_symbols block (with_symbols block table c.right) (sides cs))
        (λ names. with_variables block names c.left) (λ names. with_all_variables block (with_variables block names c.right) (sides cs)) (part_side side c.left) right in
        part_as rule _ (condition_events rule number (c ∷ cs))
        (λ table names. option_or (side_refusal block table names side c.left) (option_or (side_refusal block (with_symbols block table c.left) (with_variables block names c.left) side c.right)
        (conditions_refusal block (with_symbols block (with_symbols block table c.left) c.right) (with_variables block (with_variables block names c.left) c.right) rule (suc number) cs)))
        (λ table names. conditions_refusal block table names rule number (c ∷ cs)) (λ table. with_all_symbols block table (sides (c ∷ cs)))
        (λ names. with_all_variables block names (sides (c ∷ cs))) refl
        (λ table names. sym (or_assoc (side_refusal block table names side c.left) (side_refusal block (with_symbols block table c.left) (with_variables block names c.left) side c.right) _)
        ∙ ap (λ (k : ℕ). option_or (condition_refusal block table names rule number c)
        (conditions_refusal block (with_symbols block (with_symbols block table c.left) c.right) (with_variables block (with_variables block names c.left) c.right) rule k cs))
        (let e : suc number ≡ number + 1 = omega arith in e)) whole

    bar_is : (b : Bool) (at : ℕ) → first_or (if b then None else Some conditions_without_type) at None ≡ (if b then None else Some (conditions_without_type, at))
    bar_is true at = refl
    bar_is false at = refl

    part_bar : (rule at : ℕ) → IsPart rule (bar_at at ∷ []) (λ table names. bar_refusal typed (Some at)) (λ table. table) (λ names. names)
    part_bar rule at = record { refusal = λ front. bar_is typed at; symbols = λ table names h. refl; variables = λ table names h. refl; others = λ r names h. refl }

    part_rule : (number : ℕ) (r : RuleTree) → IsPart number (rule_events number r)
        (λ table names. option_or (side_refusal block table names (side_of number 0 true) r.left)
        (option_or (side_refusal block (with_symbols block table r.left) (with_variables block names r.left) (side_of number 0 false) r.right)
        (option_or (bar_refusal typed (option_map (λ g. g.at) r.guard))
        (conditions_refusal block (with_symbols block (with_symbols block table r.left) r.right) (with_variables block (with_variables block names r.left) r.right) number 1 (conditions_of r)))))
        (λ table. with_all_symbols block table (phrases_of_rule r)) (λ names. with_all_variables block names (phrases_of_rule r))
    part_rule number r = with_guard r.guard
      where
        with_guard : (guard : Option Guard) → IsPart number (rule_events number (record { left = r.left; right = r.right; guard = guard }))
            (λ table names. option_or (side_refusal block table names (side_of number 0 true) r.left)
            (option_or (side_refusal block (with_symbols block table r.left) (with_variables block names r.left) (side_of number 0 false) r.right)
            (option_or (bar_refusal typed (option_map (λ g. g.at) guard))
            (conditions_refusal block (with_symbols block (with_symbols block table r.left) r.right) (with_variables block (with_variables block names r.left) r.right) number 1
            (conditions_of (record { left = r.left; right = r.right; guard = guard }))))))
            (λ table. with_all_symbols block table (phrases_of_rule (record { left = r.left; right = r.right; guard = guard })))
            (λ names. with_all_variables block names (phrases_of_rule (record { left = r.left; right = r.right; guard = guard })))
        with_guard None =
            part_then number (term_events (side_of number 0 true) r.left) (term_events (side_of number 0 false) r.right ++ []) _ _ _ _ _ _ (part_side (side_of number 0 true) r.left)
            (part_then number (term_events (side_of number 0 false) r.right) [] _ _ _ _ _ _ (part_side (side_of number 0 false) r.right) (part_none number))
        with_guard (Some g) =
            part_then number (term_events (side_of number 0 true) r.left) (term_events (side_of number 0 false) r.right ++ (bar_at g.at ∷ condition_events number 1 (g.first ∷ g.others))) _ _ _ _ _ _
            (part_side (side_of number 0 true) r.left)
            (part_then number (term_events (side_of number 0 false) r.right) (bar_at g.at ∷ condition_events number 1 (g.first ∷ g.others)) _ _ _ _ _ _ (part_side (side_of number 0 false) r.right)
            (part_then number (bar_at g.at ∷ []) (condition_events number 1 (g.first ∷ g.others)) _ _ _ _ _ _ (part_bar number g.at) (part_conditions number 1 (g.first ∷ g.others))))

    rules_part : (number : ℕ) (rs : List RuleTree) (front : List Event) → ((r : ℕ) → number ≤ r → variables_used block r [] front ≡ [])
        → first_refusal block typed front (rules_events number rs) ≡ rules_refusal block typed (symbols_used block [] front) number rs
    rules_part number [] front new = refl
    rules_part number (r ∷ rs) front new =
        let table = symbols_used block [] front in
        let p = part_rule number r in
        let none_yet = new number (omega arith) in
        let here : first_refusal block typed front (rule_events number r) ≡ rule_refusal block typed table number r = rw none_yet at (p.refusal front) in
        let later : List Event = front ++ rule_events number r in
        let still : (k : ℕ) → suc number ≤ k → variables_used block k [] later ≡ [] = λ k l.
        variables_after k [] front (rule_events number r) ∙ ap (λ (x : Names). variables_used block k x (rule_events number r)) (new k (omega arith))
        ∙ p.others k [] (ne_eqb number k (λ e. omega arith)) in
        refusal_after front (rule_events number r) (rules_events (suc number) rs)
        ∙ or_same (first_refusal block typed front (rule_events number r)) (rule_refusal block typed table number r) (first_refusal block typed later (rules_events (suc number) rs))
        (rules_refusal block typed (with_all_symbols block table (phrases_of_rule r)) (number + 1) rs) here
        (λ h. rules_part (suc number) rs later still
        ∙ ap₂ (λ (x : Table) (k : ℕ). rules_refusal block typed x k rs) (symbols_after [] front (rule_events number r) ∙ p.symbols table [] h) (let e : suc number ≡ number + 1 = omega arith in e))

pub refusal_is : (file : FileTree) → refusal_of file ≡ rules_refusal (variables_of file) (has_type file) [] 1 file.rules
refusal_is file = rules_part (variables_of file) (has_type file) 1 file.rules [] (λ r l. refl)
