-- The first refusal among the identifiers of a query is the one that is found part by part.
use Rattle.std.proofs.Common.{◌≡◌, ℕ, suc, ◌+◌, Bool, true, false, if◌then◌else◌, List, [], ◌∷◌, ◌++◌, length, Option, Some, None, refl, sym, ap, ap₂, subst, ◌∙◌, arith, append_assoc, append-nil}
use Rattle.std.specs.Option.{option_or}
use Rattle.file_text.specs.Syntax.{Phrase, Phrases, word, call, none, more, count, ConditionTree}
use Rattle.cops_names.specs.NameLists.{is_among, with_name}
use Rattle.cops_names.specs.NameTable.{number_of}
use Rattle.cops_read.specs.Meaning.{with_symbol, with_symbols, with_all_symbols, with_variables, with_all_variables, sides}
use Rattle.cops_read.specs.Uses.{Spot, spots, spots_of_all, Side, side_of, Use, Event, use_of, bar_at, uses_from, term_events, condition_events}
use Rattle.cops_read.specs.Refusals.{variables_used, first_or}
use Rattle.cops_read.specs.Walks.{nodes, use_at, term_refusal, terms_refusal, side_refusal, conditions_refusal}
use Rattle.cops_read.proofs.Firsts.{or_assoc, or_same, none_first, none_then, first_or_or, first_same, no_cause, no_later}
use Rattle.cops_read.proofs.Events.{uses_after, variables_after, spots_length}
use Rattle.query_text.specs.Grammar.{QueryTree, conditions_of}
use Rattle.query_text.specs.Meaning.{QueryCause, cause_at, first_refusal, variables_of, refusal_of}
use Rattle.query_text.proofs.Facts.{clear}

-- a table that has the symbol stays
has_symbol : (table : List (List ℕ × ℕ)) (name : List ℕ) (n f : ℕ) → number_of table name ≡ Some f → with_symbol table name n ≡ table
has_symbol table name n f e = rw e refl

abbrev Refused : Type 0
Refused = Option (QueryCause × ℕ)

abbrev Names : Type 0
Names = List (List ℕ)

module _ (block : Names) (table : List (List ℕ × ℕ)) where
  refusal_after : (front xs ys : List Event) → first_refusal block table front (xs ++ ys) ≡ option_or (first_refusal block table front xs) (first_refusal block table (front ++ xs) ys)
  refusal_after front [] ys = ap (λ (f : List Event). first_refusal block table f ys) (sym (append-nil front))
  refusal_after front (use_of u ∷ xs) ys =
      ap (first_or (cause_at block table (variables_used block 1 [] front) u) u.spot.node.name.at) (refusal_after (front ++ use_of u ∷ []) xs ys)
      ∙ first_or_or (cause_at block table (variables_used block 1 [] front) u) u.spot.node.name.at _ _
      ∙ ap (λ (f : List Event). option_or (first_or (cause_at block table (variables_used block 1 [] front) u) u.spot.node.name.at
      (first_refusal block table (front ++ use_of u ∷ []) xs)) (first_refusal block table f ys)) (append_assoc front (use_of u ∷ []) xs)
  refusal_after front (bar_at at ∷ xs) ys =
      refusal_after (front ++ bar_at at ∷ []) xs ys
      ∙ ap (λ (f : List Event). option_or (first_refusal block table (front ++ bar_at at ∷ []) xs) (first_refusal block table f ys)) (append_assoc front (bar_at at ∷ []) xs)

  -- these events are refused as told, and where they are not they add this to the variables
  pub record IsPart (es : List Event) (refused : Names → Refused) (names_with : Names → Names) : Type 0 where
    pub refusal : (front : List Event) → first_refusal block table front es ≡ refused (variables_used block 1 [] front)
    pub variables : (names : Names) → refused names ≡ None → variables_used block 1 names es ≡ names_with names

  part_then : (xs ys : List Event) (f g : Names → Refused) (v w : Names → Names) → IsPart xs f v → IsPart ys g w → IsPart (xs ++ ys) (λ names. option_or (f names) (g (v names))) (λ names. w (v names))
  part_then xs ys f g v w p q = record {
    refusal = λ front.
        let names = variables_used block 1 [] front in
        refusal_after front xs ys
        ∙ or_same (first_refusal block table front xs) (f names) (first_refusal block table (front ++ xs) ys) (g (v names)) (p.refusal front)
        (λ h. q.refusal (front ++ xs) ∙ ap g (variables_after block 1 [] front xs ∙ p.variables names h));
    variables = λ names h.
        variables_after block 1 names xs ys ∙ ap (λ (x : Names). variables_used block 1 x ys) (p.variables names (none_first _ _ h)) ∙ q.variables (v names) (none_then _ _ h);
  }

  part_none : IsPart [] (λ names. None) (λ names. names)
  part_none = record { refusal = λ front. refl; variables = λ names h. refl }

  part_as : (xs ys : List Event) (f g : Names → Refused) (v : Names → Names) → xs ≡ ys → ((names : Names) → f names ≡ g names) → IsPart xs f v → IsPart ys g v
  part_as xs ys f g v e h p =
      let q : IsPart xs g v = record { refusal = λ front. p.refusal front ∙ h _; variables = λ names n. p.variables names (h names ∙ n) } in
      subst (λ (es : List Event). IsPart es g v) e q

  abbrev side_at : ℕ → Side
  side_at k = side_of 1 k false

  free : (names : Names) (u : Use) → u.spot.node.brackets ≡ true → cause_at block table names u ≡ None → is_among block u.spot.node.name.text ≡ false
  free names u b h = go (is_among block u.spot.node.name.text) refl
    where
      go : (c : Bool) → is_among block u.spot.node.name.text ≡ c → is_among block u.spot.node.name.text ≡ false
      go true e = absurd (let wrong = (clear block table names u h).bare e in cc)
      go false e = e

  -- an identifier without brackets
  part_word : (k : ℕ) (s : Spot) (n : ℕ) → IsPart (use_of record { side = side_at k; spot = s; number = n } ∷ [])
      (λ names. first_or (cause_at block table names record { side = side_at k; spot = s; number = n }) s.node.name.at None)
      (λ names. if is_among block s.node.name.text then with_name names s.node.name.text else names)
  part_word k s n = record { refusal = λ front. refl; variables = λ names h. refl }

  -- an identifier with brackets
  part_head : (k : ℕ) (s : Spot) (n : ℕ) → s.node.brackets ≡ true → IsPart (use_of record { side = side_at k; spot = s; number = n } ∷ [])
      (λ names. first_or (cause_at block table names record { side = side_at k; spot = s; number = n }) s.node.name.at None) (λ names. names)
  part_head k s n b = record {
    refusal = λ front. refl;
    variables = λ names h. let e = free names record { side = side_at k; spot = s; number = n } b (no_cause _ s.node.name.at None h) in
        ap (λ (c : Bool). if c then with_name names s.node.name.text else names) e;
  }

  abbrev cause : List (List ℕ × ℕ) → Names → Use → Option QueryCause
  cause = cause_at block

  -- what is not refused adds no symbol to the table
  same_symbol : (names : Names) (u : Use) → is_among block u.spot.node.name.text ≡ false → cause table names u ≡ None → with_symbol table u.spot.node.name.text u.spot.node.arguments ≡ table
  same_symbol names u e h = has_symbol table u.spot.node.name.text u.spot.node.arguments _ ((clear block table names u h).there e).number

  mutual
    same_symbols : (names : Names) (side : Side) (depth argument before : ℕ) (p : Phrase) → term_refusal cause block table names side depth argument before p ≡ None
        → with_symbols block table p ≡ table
    same_symbols names side depth argument before (word f) h = go (is_among block f.text) refl
      where
        go : (b : Bool) → is_among block f.text ≡ b → (if b then table else with_symbol table f.text 0) ≡ table
        go true e = refl
        go false e = same_symbol names (use_at side depth argument before record { name = f; brackets = false; arguments = 0 }) e (no_cause _ f.at None h)
    same_symbols names side depth argument before (call f ts) h =
        let u = use_at side depth argument before record { name = f; brackets = true; arguments = count ts } in
        let passed = no_cause (cause table names u) f.at _ h in
        let same : with_symbol table f.text (count ts) ≡ table = same_symbol names u (free names u refl passed) passed in
        ap (λ (x : List (List ℕ × ℕ)). with_all_symbols block x ts) same
        ∙ all_same_symbols names side (depth + 1) 1 (before + 1) ts
        (subst (λ (x : List (List ℕ × ℕ)). terms_refusal cause block x names side (depth + 1) 1 (before + 1) ts ≡ None) same (no_later (cause table names u) f.at _ h))

    all_same_symbols : (names : Names) (side : Side) (depth argument before : ℕ) (ts : Phrases) → terms_refusal cause block table names side depth argument before ts ≡ None
        → with_all_symbols block table ts ≡ table
    all_same_symbols names side depth argument before none h = refl
    all_same_symbols names side depth argument before (more t ts) h =
        let same = same_symbols names side depth argument before t (none_first _ _ h) in
        ap (λ (x : List (List ℕ × ℕ)). with_all_symbols block x ts) same
        ∙ all_same_symbols (with_variables block names t) side depth (argument + 1) (before + nodes t) ts
        (subst (λ (x : List (List ℕ × ℕ)). terms_refusal cause block x (with_variables block names t) side depth (argument + 1) (before + nodes t) ts ≡ None) same (none_then _ _ h))

  mutual
    part_term : (k depth argument before : ℕ) (p : Phrase)
        → IsPart (uses_from (side_at k) (suc before) (spots depth argument p)) (λ names. term_refusal cause block table names (side_at k) depth argument before p)
        (λ names. with_variables block names p)
    part_term k depth argument before (word f) = part_word k record { node = record { name = f; brackets = false; arguments = 0 }; depth = depth; argument = argument } (suc before)
    part_term k depth argument before (call f ts) =
        let s : Spot = record { node = record { name = f; brackets = true; arguments = count ts }; depth = depth; argument = argument } in
        let u : Use = record { side = side_at k; spot = s; number = suc before } in
        let whole = part_then (use_of u ∷ []) (uses_from (side_at k) (suc (suc before)) (spots_of_all (suc depth) 1 ts))
        (λ names. first_or (cause table names u) f.at None) (λ names. terms_refusal cause block table names (side_at k) (suc depth) 1 (suc before) ts)
        (λ names. names) (λ names. with_all_variables block names ts) (part_head k s (suc before) refl) (part_terms k (suc depth) 1 (suc before) ts) in
        part_as _ _ (λ names. option_or (first_or (cause table names u) f.at None) (terms_refusal cause block table names (side_at k) (suc depth) 1 (suc before) ts))
        (λ names. term_refusal cause block table names (side_at k) depth argument before (call f ts)) (λ names. with_variables block names (call f ts)) refl
        (λ names.
        sym (first_or_or (cause table names u) f.at None (terms_refusal cause block table names (side_at k) (suc depth) 1 (suc before) ts))
        ∙ first_same (cause table names u) f.at _ _ (λ passed.
        ap (λ (x : List (List ℕ × ℕ)). terms_refusal cause block x names (side_at k) (suc depth) 1 (suc before) ts) (sym (same_symbol names u (free names u refl passed) passed))
        ∙ ap₂ (λ (d b : ℕ). terms_refusal cause block (with_symbol table f.text (count ts)) names (side_at k) d 1 b ts)
        (let e : suc depth ≡ depth + 1 = omega arith in e) (let e : suc before ≡ before + 1 = omega arith in e))) whole

    part_terms : (k depth argument before : ℕ) (ps : Phrases)
        → IsPart (uses_from (side_at k) (suc before) (spots_of_all depth argument ps)) (λ names. terms_refusal cause block table names (side_at k) depth argument before ps)
        (λ names. with_all_variables block names ps)
    part_terms k depth argument before none = part_none
    part_terms k depth argument before (more t ts) =
        let first = uses_from (side_at k) (suc before) (spots depth argument t) in
        let later = uses_from (side_at k) (suc (before + nodes t)) (spots_of_all depth (suc argument) ts) in
        let number : suc before + length (spots depth argument t) ≡ suc (before + nodes t) = omega (arith, spots_length depth argument t) in
        let split : first ++ later ≡ uses_from (side_at k) (suc before) (spots_of_all depth argument (more t ts)) =
        sym (uses_after (side_at k) (suc before) (spots depth argument t) (spots_of_all depth (suc argument) ts)
        ∙ ap (λ (m : ℕ). first ++ uses_from (side_at k) m (spots_of_all depth (suc argument) ts)) number) in
        let whole = part_then first later (λ names. term_refusal cause block table names (side_at k) depth argument before t)
        (λ names. terms_refusal cause block table names (side_at k) depth (suc argument) (before + nodes t) ts)
        (λ names. with_variables block names t) (λ names. with_all_variables block names ts) (part_term k depth argument before t) (part_terms k depth (suc argument) (before + nodes t) ts) in
        part_as (first ++ later) (uses_from (side_at k) (suc before) (spots_of_all depth argument (more t ts)))
        (λ names. option_or (term_refusal cause block table names (side_at k) depth argument before t)
        (terms_refusal cause block table (with_variables block names t) (side_at k) depth (suc argument) (before + nodes t) ts))
        (λ names. terms_refusal cause block table names (side_at k) depth argument before (more t ts)) (λ names. with_all_variables block names (more t ts)) split
        (λ names. or_same _ _ _ _ refl (λ passed.
        ap₂ (λ (x : List (List ℕ × ℕ)) (m : ℕ). terms_refusal cause block x (with_variables block names t) (side_at k) depth m (before + nodes t) ts)
        (sym (same_symbols names (side_at k) depth argument before t passed)) (let e : suc argument ≡ argument + 1 = omega arith in e))) whole

  part_side : (k : ℕ) (p : Phrase) → IsPart (term_events (side_at k) p) (λ names. side_refusal cause block table names (side_at k) p) (λ names. with_variables block names p)
  part_side k p = part_term k 1 0 0 p

  part_conditions : (number : ℕ) (cs : List ConditionTree)
      → IsPart (condition_events 1 number cs) (λ names. conditions_refusal cause block table names 1 number cs) (λ names. with_all_variables block names (sides cs))
  part_conditions number [] = part_none
  part_conditions number (c ∷ cs) =
      let right = part_then (term_events (side_at number) c.right) (condition_events 1 (suc number) cs)
      (λ names. side_refusal cause block table names (side_at number) c.right) (λ names. conditions_refusal cause block table names 1 (suc number) cs)
      (λ names. with_variables block names c.right) (λ names. with_all_variables block names (sides cs)) (part_side number c.right) (part_conditions (suc number) cs) in
      let whole = part_then (term_events (side_at number) c.left) (term_events (side_at number) c.right ++ condition_events 1 (suc number) cs)
      (λ names. side_refusal cause block table names (side_at number) c.left)
      (λ names. option_or (side_refusal cause block table names (side_at number) c.right) (conditions_refusal cause block table (with_variables block names c.right) 1 (suc number) cs))
      (λ names. with_variables block names c.left) (λ names. with_all_variables block (with_variables block names c.right) (sides cs)) (part_side number c.left) right in
      part_as _ (condition_events 1 number (c ∷ cs))
      (λ names. option_or (side_refusal cause block table names (side_at number) c.left) (option_or (side_refusal cause block table (with_variables block names c.left) (side_at number) c.right)
      (conditions_refusal cause block table (with_variables block (with_variables block names c.left) c.right) 1 (suc number) cs)))
      (λ names. conditions_refusal cause block table names 1 number (c ∷ cs)) (λ names. with_all_variables block names (sides (c ∷ cs))) refl
      (λ names.
      let between = with_variables block names c.left in
      or_same _ _ _ _ refl (λ passed.
      let same = same_symbols names (side_at number) 1 0 0 c.left passed in
      or_same _ _ _ _ (ap (λ (x : List (List ℕ × ℕ)). side_refusal cause block x between (side_at number) c.right) (sym same)) (λ right_passed.
      ap₂ (λ (x : List (List ℕ × ℕ)) (m : ℕ). conditions_refusal cause block x (with_variables block between c.right) 1 m cs)
      (sym (ap (λ (x : List (List ℕ × ℕ)). with_symbols block x c.right) same
      ∙ same_symbols between (side_at number) 1 0 0 c.right
      (subst (λ (x : List (List ℕ × ℕ)). side_refusal cause block x between (side_at number) c.right ≡ None) same right_passed)))
      (let e : suc number ≡ number + 1 = omega arith in e)))
      ∙ sym (or_assoc (side_refusal cause block table names (side_at number) c.left) (side_refusal cause block (with_symbols block table c.left) between (side_at number) c.right) _)) whole

pub refusal_is : (table : List (List ℕ × ℕ)) (q : QueryTree) → refusal_of table q ≡ conditions_refusal (cause_at (variables_of q)) (variables_of q) table [] 1 1 (conditions_of q)
refusal_is table q = (part_conditions (variables_of q) table 1 (conditions_of q)).refusal []
