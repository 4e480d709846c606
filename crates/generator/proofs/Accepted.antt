-- A tree whose rules are small is accepted, where all of them have a meaning under the table of its symbols.
use Rattle.std.proofs.Common.{◌≡◌, ℕ, suc, ◌+◌, ◌<◌, ◌≤◌, Bool, true, false, List, [], ◌∷◌, length, get_or, Option, Some, None, refl, sym, ap, ◌∙◌, arith, length-append, eq-eqb, ne_eqb}
use Rattle.std.specs.Prelude.{◌&&◌, ◌==◌, not, nat_le, option_map, slice_get}
use Rattle.std.proofs.lemmas.Bool.{le-ltb, lt-leb, and_right}
use Rattle.std.proofs.lemmas.List.Quantifiers.{position-Some}
use Rattle.std.proofs.lemmas.Option.{slice_get-get_or}
use Rattle.std.specs.Str.{bytes_eq}
use Rattle.file_text.specs.Syntax.{Phrase, Phrases, word, call, none, more, count, Node, ConditionTree, RuleTree, conditions_of, Guard}
use Rattle.rewriting.specs.Prelude.{Term, var, app, Terms, nil, cons, IsVariable, Condition, Rule}
use Rattle.cops_names.specs.NameTable.{number_of}
use Rattle.cops_names.specs.NameLists.{is_among}
use Rattle.cops_names.proofs.Lists.{Extends, extends_refl, extends_trans, extends_position, extends_get}
use Rattle.cops_read.specs.Meaning.{phrases_of_rule, sides, rule_variables, with_variables, with_all_variables, with_symbols, with_all_symbols, with_rule_symbols, IsSymbolOf}
use Rattle.cops_read.specs.Meaning.{IsTermOf, AreTermsOf, AreConditionsOf, IsRuleOf, AreRulesOf}
use Rattle.cops_read.specs.Uses.{Use, Side, side_of}
use Rattle.cops_read.specs.Refusals.{limit_cause, variable_cause, symbol_cause, known_symbol_cause, arity_in, cause_at}
use Rattle.cops_read.specs.Walks.{nodes, all_nodes, use_at}
use Rattle.cops_read.specs.Steps.{term_refusal, terms_refusal}
use Rattle.cops_read.specs.RuleSteps.{bar_refusal, side_refusal, conditions_refusal, rule_refusal, rules_refusal}
use Rattle.cops_read.proofs.Firsts.{none_of_both, nothing_first}
use Rattle.cops_read.proofs.Identifiers.{cause_of_variable, cause_of_symbol}
use Rattle.cops_read.proofs.Growth.{symbols_extend, all_symbols_extend, variables_extend, all_variables_extend, rule_symbols_extend}

abbrev Table : Type 0
Table = List (List ℕ × ℕ)

abbrev Names : Type 0
Names = List (List ℕ)

pub extends_length : {A : Type 0} (xs ys : List A) → Extends xs ys → length xs ≤ length ys
extends_length xs ys e = let split = ap length e.split in omega (arith, length-append xs e.rest)

in_limits : (side : Side) (depth argument before : ℕ) (node : Node) → side.rule ≤ 1000 → side.condition ≤ 20 → argument ≤ 20 → depth ≤ 20 → before < 20
    → limit_cause (use_at side depth argument before node) ≡ None
in_limits side depth argument before node r c a d b =
    rw (le-ltb 1000 side.rule r, le-ltb 20 side.condition c, le-ltb 20 argument a, le-ltb 200 depth (omega arith), le-ltb 2000 (suc before) (omega arith)) refl

some_nodes : (p : Phrase) → 1 ≤ nodes p
some_nodes (word f) = omega arith
some_nodes (call f ts) = omega arith

abbrev pub AreFew : List ConditionTree → Type 0
AreFew [] = Unit {0}
AreFew (c ∷ cs) = (nodes c.left ≤ 19) × (nodes c.right ≤ 19) × AreFew cs

-- the rule has a left side that is no variable, and few and small parts
pub record IsFew (block : Names) (tree : RuleTree) (r : Rule) : Type 0 where
  pub left : IsVariable r.left → ⊥
  pub left_nodes : nodes tree.left ≤ 19
  pub right_nodes : nodes tree.right ≤ 19
  pub conditions : AreFew (conditions_of tree)
  pub few_conditions : length (conditions_of tree) ≤ 20
  pub few_variables : length (rule_variables block tree) < 100

abbrev pub AreAllFew : Names → List RuleTree → List Rule → Type 0
AreAllFew block [] rs = Unit {0}
AreAllFew block (t ∷ ts) [] = ⊥
AreAllFew block (t ∷ ts) (r ∷ rs) = IsFew block t r × AreAllFew block ts rs

module _ (block : Names) (whole : Table) (few : length whole < 1000) where
  module _ (table : Table) (e : Extends table whole) (u : Use) (f : ℕ) (s : IsSymbolOf block whole u.spot.node.name.text u.spot.node.arguments f) where
    abbrev name : List ℕ
    name = u.spot.node.name.text

    abbrev is_it : List ℕ × ℕ → Bool
    is_it = λ s. bytes_eq name s.0

    found : (g : ℕ) → number_of table name ≡ Some g → arity_in table (number_of table name) ≡ Some u.spot.node.arguments
    found g h =
        let same : g ≡ f = (let there = extends_position is_it table whole g e h in let other = s.1 in cc) in
        let inside = (position-Some is_it table g ([], 0) h).0 in
        let here = slice_get-get_or table g ([], 0) inside in
        let there = extends_get table whole g (get_or table g ([], 0)) e here in
        let arity = s.2 in
        ap (arity_in table) h ∙ ap (option_map (λ (s : List ℕ × ℕ). s.1)) here ∙ sym (ap (option_map (λ (s : List ℕ × ℕ). s.1)) there)
        ∙ ap (λ (i : ℕ). option_map (λ (s : List ℕ × ℕ). s.1) (slice_get whole i)) same ∙ arity

    symbol_passes : symbol_cause table u ≡ None
    symbol_passes = by (number_of table name) refl
      where
        by : (o : Option ℕ) → number_of table name ≡ o → symbol_cause table u ≡ None
        by None h = ap (λ (o : Option ℕ). known_symbol_cause table u (arity_in table o)) h ∙ rw (lt-leb 1000 (length table) (let l = extends_length table whole e in omega arith)) refl
        by (Some g) h = ap (known_symbol_cause table u) (found g h) ∙ rw (eq-eqb u.spot.node.arguments u.spot.node.arguments refl) refl

  variable_passes : (names : Names) (u : Use) → u.spot.node.brackets ≡ false → (u.side.is_left && (u.spot.depth == 1)) ≡ false → length names < 100 → variable_cause names u ≡ None
  variable_passes names u b l h = rw (b, l, and_right (not (is_among names u.spot.node.name.text)) (nat_le 100 (length names)) (lt-leb 100 (length names) h)) refl

  module _ (vars : Names) (few_vars : length vars < 100) (side : Side) (rule : side.rule ≤ 1000) (condition : side.condition ≤ 20) where
    mutual
      term_passes : (table : Table) (names : Names) (d a b : ℕ) (p : Phrase) (t : Term) → Extends (with_symbols block table p) whole → Extends (with_variables block names p) vars
          → IsTermOf block whole vars p t → 1 ≤ d → d + nodes p ≤ 20 → a ≤ 20 → b + nodes p ≤ 20 → (IsVariable t → (side.is_left && (d == 1)) ≡ false)
          → term_refusal block table names side d a b p ≡ None
      term_passes table names d a b (word f) (var x) e v h low dn an bn left =
          let node : Node = record { name = f; brackets = false; arguments = 0 } in
          let u = use_at side d a b node in
          let l = extends_length names vars (extends_trans _ _ _ (variables_extend block names (word f)) v) in
          nothing_first (cause_at block table names u) f.at None
          (cause_of_variable block table names u (in_limits side d a b node rule condition an (omega arith) (omega arith)) h.0 (variable_passes names u refl (left tt) (omega arith))) refl
      term_passes table names d a b (word f) (app g us) e v h low dn an bn left =
          let node : Node = record { name = f; brackets = false; arguments = 0 } in
          let u = use_at side d a b node in
          nothing_first (cause_at block table names u) f.at None
          (cause_of_symbol block table names u (in_limits side d a b node rule condition an (omega arith) (omega arith)) h.0.0
          (symbol_passes table (extends_trans _ _ _ (symbols_extend block table (word f)) e) u g h.0)) refl
      term_passes table names d a b (call f ts) (var x) e v h low dn an bn left = absurd h
      term_passes table names d a b (call f ts) (app g us) e v h low dn an bn left =
          let node : Node = record { name = f; brackets = true; arguments = count ts } in
          let u = use_at side d a b node in
          nothing_first (cause_at block table names u) f.at _
          (cause_of_symbol block table names u (in_limits side d a b node rule condition an (omega arith) (omega arith)) h.0.0
          (symbol_passes table (extends_trans _ _ _ (symbols_extend block table (call f ts)) e) u g h.0))
          (terms_pass _ names (d + 1) 1 (b + 1) ts us e v h.1 (omega arith) (omega arith) (omega arith) (omega arith) (and_right side.is_left (d + 1 == 1) (ne_eqb (d + 1) 1 (λ q. omega arith))))

      terms_pass : (table : Table) (names : Names) (d a b : ℕ) (ps : Phrases) (ts : Terms) → Extends (with_all_symbols block table ps) whole → Extends (with_all_variables block names ps) vars
          → AreTermsOf block whole vars ps ts → 1 ≤ d → d + all_nodes ps ≤ 20 → a + all_nodes ps ≤ 21 → b + all_nodes ps ≤ 20 → (side.is_left && (d == 1)) ≡ false
          → terms_refusal block table names side d a b ps ≡ None
      terms_pass table names d a b none ts e v h low dn an bn left = refl
      terms_pass table names d a b (more p ps) nil e v h low dn an bn left = absurd h
      terms_pass table names d a b (more p ps) (cons t ts) e v h low dn an bn left =
          let one = some_nodes p in
          none_of_both _ _ (term_passes table names d a b p t (extends_trans _ _ _ (all_symbols_extend block (with_symbols block table p) ps) e)
          (extends_trans _ _ _ (all_variables_extend block (with_variables block names p) ps) v) h.0 low (omega arith) (omega arith) (omega arith) (λ _. left))
          (terms_pass (with_symbols block table p) (with_variables block names p) d (a + 1) (b + nodes p) ps ts e v h.1 low (omega arith) (omega arith) (omega arith) left)

  module _ (vars : Names) (few_vars : length vars < 100) (number : ℕ) (below : number ≤ 1000) where
    side_passes : (table : Table) (names : Names) (condition : ℕ) (is_left : Bool) (p : Phrase) (t : Term) → Extends (with_symbols block table p) whole → Extends (with_variables block names p) vars
        → IsTermOf block whole vars p t → condition ≤ 20 → nodes p ≤ 19 → (IsVariable t → is_left ≡ false) → side_refusal block table names (side_of number condition is_left) p ≡ None
    side_passes table names condition is_left p t e v h c n left =
        term_passes vars few_vars (side_of number condition is_left) below c table names 1 0 0 p t e v h (omega arith) (omega arith) (omega arith) (omega arith)
        (λ i. let l = left i in rw l refl)

    conditions_pass : (table : Table) (names : Names) (k : ℕ) (cs : List ConditionTree) (ds : List Condition) → Extends (with_all_symbols block table (sides cs)) whole
        → Extends (with_all_variables block names (sides cs)) vars
        → AreConditionsOf block whole vars cs ds → AreFew cs → k + length cs ≤ 21 → conditions_refusal block table names number k cs ≡ None
    conditions_pass table names k [] ds e v h f l = refl
    conditions_pass table names k (c ∷ cs) [] e v h f l = absurd h
    conditions_pass table names k (c ∷ cs) (d ∷ ds) e v h f l =
        let e1 = extends_trans _ _ _ (all_symbols_extend block (with_symbols block (with_symbols block table c.left) c.right) (sides cs)) e in
        let v1 = extends_trans _ _ _ (all_variables_extend block (with_variables block (with_variables block names c.left) c.right) (sides cs)) v in
        none_of_both _ _
        (none_of_both _ _
        (side_passes table names k false c.left d.left (extends_trans _ _ _ (symbols_extend block (with_symbols block table c.left) c.right) e1)
        (extends_trans _ _ _ (variables_extend block (with_variables block names c.left) c.right) v1) h.0 (omega arith) f.0 (λ _. refl))
        (side_passes (with_symbols block table c.left) (with_variables block names c.left) k false c.right d.right e1 v1 h.1 (omega arith) f.1 (λ _. refl)))
        (conditions_pass (with_symbols block (with_symbols block table c.left) c.right) (with_variables block (with_variables block names c.left) c.right) (k + 1) cs ds e v h.2 f.2 (omega arith))

  bar_passes : (guard : Option Guard) → bar_refusal true (option_map (λ g. g.at) guard) ≡ None
  bar_passes None = refl
  bar_passes (Some g) = refl

  rule_passes : (table : Table) (number : ℕ) (tree : RuleTree) (r : Rule) → Extends (with_all_symbols block table (phrases_of_rule tree)) whole → IsRuleOf block whole tree r
      → IsFew block tree r → number ≤ 1000
      → rule_refusal block true table number tree ≡ None
  rule_passes table number tree r e h f n =
      let vars = rule_variables block tree in
      let cs = conditions_of tree in
      let whole_row : Extends vars vars = extends_refl vars in
      let e2 = extends_trans _ _ _ (all_symbols_extend block (with_symbols block (with_symbols block table tree.left) tree.right) (sides cs)) e in
      let v2 : Extends (with_variables block (with_variables block [] tree.left) tree.right) vars = all_variables_extend block
      (with_variables block (with_variables block [] tree.left) tree.right) (sides cs) in
      none_of_both _ _
      (side_passes vars f.few_variables number n table [] 0 true tree.left r.left (extends_trans _ _ _ (symbols_extend block (with_symbols block table tree.left) tree.right) e2)
      (extends_trans _ _ _ (variables_extend block (with_variables block [] tree.left) tree.right) v2) h.left (omega arith) f.left_nodes (λ i. absurd (f.left i)))
      (none_of_both _ _
      (side_passes vars f.few_variables number n (with_symbols block table tree.left) (with_variables block [] tree.left) 0 false tree.right r.right e2 v2 h.right
      (omega arith) f.right_nodes (λ _. refl))
      (none_of_both _ _ (bar_passes tree.guard)
      (conditions_pass vars f.few_variables number n (with_symbols block (with_symbols block table tree.left) tree.right)
      (with_variables block (with_variables block [] tree.left) tree.right) 1 cs r.conditions e
      whole_row h.conditions f.conditions (let l = f.few_conditions in omega arith))))

  pub rules_pass : (table : Table) (number : ℕ) (trees : List RuleTree) (rs : List Rule) → Extends (with_rule_symbols block table trees) whole
      → AreRulesOf block whole trees rs → AreAllFew block trees rs
      → number + length trees ≤ 1001 → rules_refusal block true table number trees ≡ None
  rules_pass table number [] rs e h f n = refl
  rules_pass table number (t ∷ ts) [] e h f n = absurd h
  rules_pass table number (t ∷ ts) (r ∷ rs) e h f n =
      none_of_both _ _
      (rule_passes table number t r (extends_trans _ _ _ (rule_symbols_extend block (with_all_symbols block table (phrases_of_rule t)) ts) e) h.0 f.0 (omega arith))
      (rules_pass (with_all_symbols block table (phrases_of_rule t)) (number + 1) ts rs e h.1 f.1 (omega arith))
