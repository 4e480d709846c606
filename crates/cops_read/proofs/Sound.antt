-- What a tree means is a system.
use Rattle.std.proofs.Common.{◌≡◌, ℕ, zero, suc, ◌+◌, ◌-◌, ◌*◌, ◌^◌, ◌<◌, ◌≤◌, Bool, true, false, List, [], ◌∷◌, ◌++◌, length, map, Some, All, refl, sym, ap, subst, ◌∙◌, arith}
use Rattle.std.proofs.Common.{length-append, eq-eqb, ne_eqb, inl, inr, ◌⊎◌}
use Rattle.std.specs.Prelude.{if◌then◌else◌, nat_eq, ◌||◌}
use Rattle.std.specs.List.{list_any, position_or_len}
use Rattle.std.specs.Str.{bytes_eq}
use Rattle.std.proofs.lemmas.Option.{slice_get-map}
use Rattle.std.proofs.lemmas.List.Quantifiers.{position-Some}
use Rattle.std.proofs.lemmas.Bool.{cases_lt, or_right, or_left, or_from}
use Rattle.std.proofs.lemmas.List.{length-map}
use Rattle.std.proofs.lemmas.List.Elements.{All-head, All-tail}
use Rattle.std.proofs.lemmas.Slice.Eq.{bytes_eq-Decides}
use Rattle.file_text.specs.Syntax.{Phrase, Phrases, word, call, none, more, count, ConditionTree, RuleTree, conditions_of, FileTree, has_type}
use Rattle.rewriting.specs.Terms as terms
use Rattle.rewriting.specs.Prelude.{Term, var, app, Terms, nil, cons, Fits, IsOver, AreOver, Condition, Rule, System, Each, terms_of_rule, CountsFrom, IsRule, AreRules, condition_count}
use Rattle.rewriting.specs.Prelude.{IsSystem}
use Rattle.rewriting.specs.Variables as math
use Rattle.rewriting.specs.Rules as rules
use Rattle.rewriting.specs.Systems as systems
use Rattle.cops_names.specs.NameTable.{NameTable}
use Rattle.cops_names.specs.NameLists.{is_among, name_index, with_name}
use Rattle.cops_read.specs.Meaning.{sides, phrases_of_rule, variables_of, with_variables, with_all_variables, rule_variables, IsTermOf, AreTermsOf, AreConditionsOf, IsRuleOf, AreRulesOf}
use Rattle.cops_read.specs.Limits.{IsSmall, IsAllowed}
use Rattle.cops_read.specs.File.{IsSystemOf}
use Rattle.cops_names.proofs.Lists.{Extends, extends_refl, extends_trans, extends_position, position_end, position_of_any}
use Rattle.cops_read.proofs.Growth.{all_variables_extend}
use Rattle.cops_read.proofs.Within.{is_within_limits}

module _ (block : List (List ℕ)) (table : List (List ℕ × ℕ)) where
  counts_are : (names : List (List ℕ)) (ps : Phrases) (ts : Terms) → AreTermsOf block table names ps ts → count ps ≡ terms.count ts
  counts_are names none nil h = refl
  counts_are names none (cons t ts) h = absurd h
  counts_are names (more p ps) nil h = absurd h
  counts_are names (more p ps) (cons t ts) h = ap suc (counts_are names ps ts h.1)

  mutual
    pub term_over : (names : List (List ℕ)) (p : Phrase) (t : Term) → IsTermOf block table names p t → IsOver (map (λ s. s.1) table) t
    term_over names p (var x) h = tt
    term_over names (word f) (app k us) h =
        (slice_get-map (λ (s : List ℕ × ℕ). s.1) table k ∙ h.0.2 ∙ ap (λ (ts : Terms). Some (terms.count ts)) (sym h.1), subst (AreOver (map (λ (s : List ℕ × ℕ). s.1) table)) (sym h.1) tt)
    term_over names (call f ts) (app k us) h =
        (slice_get-map (λ (s : List ℕ × ℕ). s.1) table k ∙ h.0.2 ∙ ap Some (counts_are names ts us h.1), terms_over names ts us h.1)

    pub terms_over : (names : List (List ℕ)) (ps : Phrases) (ts : Terms) → AreTermsOf block table names ps ts → AreOver (map (λ s. s.1) table) ts
    terms_over names ps nil h = tt
    terms_over names none (cons t ts) h = absurd h
    terms_over names (more p ps) (cons t ts) h = (term_over names p t h.0, terms_over names ps ts h.1)

-- the numbers 0, 1, .., n - 1
abbrev pub upto : ℕ → List ℕ
upto zero = []
upto (suc n) = upto n ++ n ∷ []

any_end : (p : ℕ → Bool) (xs : List ℕ) (y : ℕ) → list_any p (xs ++ y ∷ []) ≡ (list_any p xs || p y)
any_end p [] y = by (p y)
  where
    by : (b : Bool) → (b || false) ≡ b
    by true = refl
    by false = refl
any_end p (x ∷ xs) y = by (p x) (any_end p xs y)
  where
    by : (b : Bool) → list_any p (xs ++ y ∷ []) ≡ (list_any p xs || p y) → (b || list_any p (xs ++ y ∷ [])) ≡ ((b || list_any p xs) || p y)
    by true e = refl
    by false e = e

upto_lacks : (n x : ℕ) → n ≤ x → list_any (nat_eq x) (upto n) ≡ false
upto_lacks zero x h = refl
upto_lacks (suc n) x h = any_end (nat_eq x) (upto n) n ∙ or_from _ _ (upto_lacks n x (omega arith)) (ne_eqb x n (λ e. omega arith))

upto_has : (n x : ℕ) → x < n → list_any (nat_eq x) (upto n) ≡ true
upto_has zero x h = absurd (omega arith)
upto_has (suc n) x h = any_end (nat_eq x) (upto n) n ∙ by (λ l. upto_has n x l) (cases_lt x n)
  where
    by : (x < n → list_any (nat_eq x) (upto n) ≡ true) → (x < n) ⊎ (n ≤ x) → (list_any (nat_eq x) (upto n) || nat_eq x n) ≡ true
    by again (inl l) = or_left _ _ (again l)
    by again (inr g) = or_right _ _ (eq-eqb x n (omega arith))

new_has : (n x : ℕ) → x < n → math.with_new (upto n) x ≡ upto n
new_has n x h = rw (upto_has n x h) refl

new_lacks : (n : ℕ) → math.with_new (upto n) n ≡ upto (suc n)
new_lacks n = rw (upto_lacks n n (omega arith)) refl

-- the number of a variable is new where its name is
new_name : (names longer : List (List ℕ)) (name : List ℕ) (x : ℕ) (b : Bool) → is_among names name ≡ b → Extends (if b then names else (names ++ name ∷ [])) longer → name_index longer name ≡ Some x
    → math.with_new (upto (length names)) x ≡ upto (length (if b then names else (names ++ name ∷ [])))
new_name names longer name x true h e g =
    let there = position_of_any (bytes_eq name) names h in
    let found = extends_position (bytes_eq name) names longer (position_or_len (bytes_eq name) names) e there in
    let same : position_or_len (bytes_eq name) names ≡ x = cc in
    let inside = (position-Some (bytes_eq name) names (position_or_len (bytes_eq name) names) [] there).0 in
    new_has (length names) x (subst (λ (i : ℕ). i < length names) same inside)
new_name names longer name x false h e g =
    let there = position_end (bytes_eq name) names name [] h ((bytes_eq-Decides name name).1 refl) in
    let found = extends_position (bytes_eq name) (names ++ name ∷ []) longer (length names) e there in
    let same : length names ≡ x = cc in
    let longer_by : length (names ++ name ∷ []) ≡ suc (length names) = omega (arith, length-append names (name ∷ [])) in
    ap (math.with_new (upto (length names))) (sym same) ∙ new_lacks (length names) ∙ ap upto (sym longer_by)

counts_end : (n : ℕ) (xs : List ℕ) (y : ℕ) → CountsFrom n xs → y ≡ n + length xs → CountsFrom n (xs ++ y ∷ [])
counts_end n [] y h e = (omega arith, tt)
counts_end n (x ∷ xs) y h e = (h.0, counts_end (suc n) xs y h.1 (omega arith))

pub length_upto : (n : ℕ) → length (upto n) ≡ n
length_upto zero = refl
length_upto (suc n) = omega (arith, length_upto n, length-append (upto n) (n ∷ []))

pub counts : (n : ℕ) → CountsFrom 0 (upto n)
counts zero = tt
counts (suc n) = counts_end 0 (upto n) n (counts n) (omega (arith, length_upto n))

each_over : (arities : List ℕ) (ts : Terms) → AreOver arities ts → Each (IsOver arities) ts
each_over arities nil h = tt
each_over arities (cons t ts) h = (h.0, each_over arities ts h.1)

pub fits_of : (t : Term) → IsSmall t → Fits t
fits_of t h = record { nodes = let a = h.nodes in omega arith; levels = let a = h.levels in omega arith }

each_fits : (ts : Terms) → Each IsSmall ts → Each Fits ts
each_fits nil h = tt
each_fits (cons t ts) h = (fits_of t h.0, each_fits ts h.1)

module _ (block : List (List ℕ)) (table : List (List ℕ × ℕ)) where
  word_variable : (names longer : List (List ℕ)) (name : List ℕ) (x : ℕ) (b : Bool) → b ≡ true → Extends (if b then with_name names name else names) longer
      → name_index longer name ≡ Some x → math.with_new (upto (length names)) x ≡ upto (length (if b then with_name names name else names))
  word_variable names longer name x true h e g = new_name names longer name x (is_among names name) refl e g
  word_variable names longer name x false h e g = cc

  word_symbol : (names : List (List ℕ)) (name : List ℕ) (b : Bool) → b ≡ false → upto (length names) ≡ upto (length (if b then with_name names name else names))
  word_symbol names name true h = cc
  word_symbol names name false h = refl

  -- where the names have numbers in order of first use, so have the variables of the term
  mutual
    pub numbers_in : (names longer : List (List ℕ)) (p : Phrase) (t : Term) → Extends (with_variables block names p) longer → IsTermOf block table longer p t
        → math.with_variables (upto (length names)) t ≡ upto (length (with_variables block names p))
    numbers_in names longer (word f) (var x) e h = word_variable names longer f.text x (is_among block f.text) h.0 e h.1
    numbers_in names longer (word f) (app k us) e h =
        ap (math.with_variables_of (upto (length names))) h.1 ∙ word_symbol names f.text (is_among block f.text) h.0.0
    numbers_in names longer (call f ts) (var x) e h = absurd h
    numbers_in names longer (call f ts) (app k us) e h = numbers_in_all names longer ts us e h.1

    pub numbers_in_all : (names longer : List (List ℕ)) (ps : Phrases) (ts : Terms) → Extends (with_all_variables block names ps) longer → AreTermsOf block table longer ps ts
        → math.with_variables_of (upto (length names)) ts ≡ upto (length (with_all_variables block names ps))
    numbers_in_all names longer none nil e h = refl
    numbers_in_all names longer none (cons t ts) e h = absurd h
    numbers_in_all names longer (more p ps) nil e h = absurd h
    numbers_in_all names longer (more p ps) (cons t ts) e h =
        let first = numbers_in names longer p t (extends_trans _ _ _ (all_variables_extend block (with_variables block names p) ps) e) h.0 in
        ap (λ (xs : List ℕ). math.with_variables_of xs ts) first ∙ numbers_in_all (with_variables block names p) longer ps ts e h.1

  -- the sides of conditions, and the terms of a rule
  pub sides_are : (names : List (List ℕ)) (cs : List ConditionTree) (ds : List Condition) → AreConditionsOf block table names cs ds → AreTermsOf block table names (sides cs) (rules.sides ds)
  sides_are names [] [] h = tt
  sides_are names [] (d ∷ ds) h = absurd h
  sides_are names (c ∷ cs) [] h = absurd h
  sides_are names (c ∷ cs) (d ∷ ds) h = (h.0, (h.1, sides_are names cs ds h.2))

  pub terms_are : (tree : RuleTree) (r : Rule) → IsRuleOf block table tree r → AreTermsOf block table (rule_variables block tree) (phrases_of_rule tree) (terms_of_rule r)
  terms_are tree r h = (h.left, (h.right, sides_are _ (conditions_of tree) r.conditions h.conditions))

  pub variables_are : (tree : RuleTree) (r : Rule) → IsRuleOf block table tree r → systems.rule_variables r ≡ upto (length (rule_variables block tree))
  variables_are tree r h =
      numbers_in_all [] (rule_variables block tree) (phrases_of_rule tree) (terms_of_rule r) (extends_refl _) (terms_are tree r h)

  rule_is : (typed : Bool) (tree : RuleTree) (r : Rule) → IsRuleOf block table tree r → IsAllowed typed r → length (rule_variables block tree) ≤ 100 → IsRule (map (λ s. s.1) table) r
  rule_is typed tree r h a few = record {
    is_over = record { over = each_over _ (terms_of_rule r) (terms_over block table (rule_variables block tree) (phrases_of_rule tree) (terms_of_rule r) (terms_are tree r h)); left = a.left };
    numbered = subst (CountsFrom 0) (sym (variables_are tree r h)) (counts (length (rule_variables block tree)));
    few_variables = subst (λ (xs : List ℕ). length xs < 2 ^ 31) (sym (variables_are tree r h)) (omega (arith, few, length_upto (length (rule_variables block tree))));
    few_conditions = let few_conditions = a.few_conditions in omega arith;
    fits = each_fits (terms_of_rule r) a.terms;
  }

  rules_are : (typed : Bool) (trees : List RuleTree) (rs : List Rule) → AreRulesOf block table trees rs → All (IsAllowed typed) rs
      → All (λ list. length list ≤ 100) (map (rule_variables block) trees) → AreRules (map (λ s. s.1) table) rs
  rules_are typed [] [] h a few = tt
  rules_are typed [] (r ∷ rs) h a few = absurd h
  rules_are typed (t ∷ ts) [] h a few = absurd h
  rules_are typed (t ∷ ts) (r ∷ rs) h a few = (
    rule_is typed t r h.0 (All-head (IsAllowed typed) r rs a) (All-head (λ list. length list ≤ 100) (rule_variables block t) (map (rule_variables block) ts) few),
    rules_are typed ts rs h.1 (All-tail (IsAllowed typed) r rs a) (All-tail (λ list. length list ≤ 100) (rule_variables block t) (map (rule_variables block) ts) few),
  )

conditions_few : (typed : Bool) (rs : List Rule) → All (IsAllowed typed) rs → condition_count rs ≤ 20 * length rs
conditions_few typed [] h = omega arith
conditions_few typed (r ∷ rs) h = let here = (All-head (IsAllowed typed) r rs h).few_conditions in let rest = conditions_few typed rs (All-tail (IsAllowed typed) r rs h) in omega arith

pub few_listed : (file : FileTree) (sys : System) (names : NameTable) → IsSystemOf file sys names → length sys.arities + condition_count sys.rules < 2 ^ 31 - 2
few_listed file sys names h =
    let limits = is_within_limits file sys names h in
    let few = conditions_few (has_type file) sys.rules limits.rules in
    let rules = limits.few_rules in
    let symbols = limits.few_symbols in
    let arities = ap length h.arities in
    let same = length-map names.symbols (λ (s : List ℕ × ℕ). s.1) in
    omega (arith, few, rules, symbols, arities, same)

pub listed_rules : (file : FileTree) (sys : System) (names : NameTable) → IsSystemOf file sys names → length sys.rules + condition_count sys.rules < 2 ^ 31 - 2
listed_rules file sys names h =
    let limits = is_within_limits file sys names h in
    let few = conditions_few (has_type file) sys.rules limits.rules in
    let rules = limits.few_rules in
    omega (arith, few, rules)

pub system_is : (file : FileTree) (sys : System) (names : NameTable) → IsSystemOf file sys names → IsSystem sys
system_is file sys names h =
    let limits = is_within_limits file sys names h in
    let symbols = few_listed file sys names h in
    let rules = listed_rules file sys names h in
    record {
      rules = subst (λ (a : List ℕ). AreRules a sys.rules) (sym h.arities)
          (rules_are (variables_of file) names.symbols (has_type file) file.rules sys.rules h.rules limits.rules
          (subst (All (λ (list : List (List ℕ)). length list ≤ 100)) h.variables limits.few_variables));
      few_symbols = omega (arith, symbols);
      few_rules = omega (arith, rules);
    }
