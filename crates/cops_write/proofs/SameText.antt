-- The text of a system is that of the tree that means it.
use Rattle.std.proofs.Common.{◌≡◌, ℕ, zero, suc, ◌<◌, ◌≤◌, Bool, true, false, List, [], ◌∷◌, ◌++◌, map, length, get_or, take, Option, None, Some, refl, sym, ap, ap₂, ◌∙◌, arith}
use Rattle.std.proofs.Common.{append_assoc, append-nil, length-append, lt-ltb}
use Rattle.std.specs.Prelude.{◌||◌, nat_lt, option_map, slice_get, unwrap_or, codes}
use Rattle.std.specs.Option.{option_and_then}
use Rattle.std.specs.Str.{bytes_eq}
use Rattle.std.proofs.lemmas.Option.{slice_get_read}
use Rattle.std.proofs.lemmas.List.{map-append}
use Rattle.std.proofs.Math.Seq.{take-suc, take-length}
use Rattle.std.proofs.lemmas.List.Quantifiers.{position-Some}
use Rattle.std.proofs.lemmas.Slice.Eq.{bytes_eq-Decides}
use Rattle.general_lemmas.proofs.Places.{slice_get_seam}
use Rattle.file_text.specs.Syntax.{Phrase, Phrases, word, call, none, more, ConditionTree, Guard, RuleTree, conditions_of}
use Rattle.rewriting.specs.Prelude.{Term, var, app, Terms, nil, cons, Condition, Rule}
use Rattle.cops_names.specs.NameTable.{NameTable, variable_at, number_of}
use Rattle.cops_names.specs.NameLists.{name_index}
use Rattle.cops_read.specs.Meaning.{rule_variables, IsTermOf, AreTermsOf, AreConditionsOf, IsRuleOf, AreRulesOf}
use Rattle.cops_read.proofs.Sound.{upto, variables_are}
use Rattle.cops_write.specs.Text.{symbol_text, variable_text, term_text, arguments_text, further_text, condition_text, conditions_text, others_text, rule_text, rules_text}
use Rattle.cops_write.specs.Text.{rule_names, names_from, has_conditions}
use Rattle.cops_write.proofs.Trees.{text, arguments, further, condition, others, guarded, rule, rules}

-- what is found in a list stands there
stands : (names : List (List ℕ)) (name : List ℕ) (x : ℕ) → name_index names name ≡ Some x → slice_get names x ≡ Some name
stands names name x e =
    let p = position-Some (bytes_eq name) names x name e in
    let same : name ≡ get_or names x name = (bytes_eq-Decides name (get_or names x name)).0 p.1 in
    slice_get_read names (length names) x name refl p.0 same

symbol_stands : (names : NameTable) (name : List ℕ) (f : ℕ) → number_of names.symbols name ≡ Some f → symbol_text names f ≡ name
symbol_stands names name f e =
    let none : List ℕ × ℕ = (name, 0) in
    let p = position-Some (λ (s : List ℕ × ℕ). bytes_eq name s.0) names.symbols f none e in
    let it = get_or names.symbols f none in
    let same : name ≡ it.0 = (bytes_eq-Decides name it.0).0 p.1 in
    let there : slice_get names.symbols f ≡ Some it = slice_get_read names.symbols (length names.symbols) f it refl p.0 (default_differs names.symbols f none p.0) in
    ap (λ (o : Option (List ℕ × ℕ)). unwrap_or (option_map (λ s. s.0) o) []) there ∙ sym same
  where
    default_differs : (xs : List (List ℕ × ℕ)) (i : ℕ) (d : List ℕ × ℕ) → i < length xs → get_or xs i d ≡ get_or xs i (get_or xs i d)
    default_differs [] i d lt = absurd (omega arith)
    default_differs (x ∷ xs) zero d lt = refl
    default_differs (x ∷ xs) (suc i) d lt = default_differs xs i d (omega arith)

module _ (names : NameTable) (number : ℕ) (block : List (List ℕ)) (vars : List (List ℕ)) (there : (x : ℕ) → variable_at names number x ≡ slice_get vars x) where
  variable_stands : (name : List ℕ) (x : ℕ) → name_index vars name ≡ Some x → variable_text names number x ≡ name
  variable_stands name x e = ap (λ (o : Option (List ℕ)). unwrap_or o []) (there x ∙ stands vars name x e)

  mutual
    same_text : (p : Phrase) (t : Term) (k : List ℕ) → IsTermOf block names.symbols vars p t → term_text names number t ++ k ≡ text p k
    same_text (word f) (var x) k h = ap (λ (w : List ℕ). w ++ k) (variable_stands f.text x h.1)
    same_text (word f) (app g us) k h =
        ap (λ (vs : Terms). (symbol_text names g ++ arguments_text names number vs) ++ k) h.1
        ∙ ap (λ (w : List ℕ). w ++ k) (append-nil (symbol_text names g) ∙ symbol_stands names f.text g h.0.1)
    same_text (call f ts) (var x) k h = absurd h
    same_text (call f ts) (app g us) k h =
        append_assoc (symbol_text names g) (arguments_text names number us) k
        ∙ ap (λ (w : List ℕ). w ++ (arguments_text names number us ++ k)) (symbol_stands names f.text g h.0.1)
        ∙ ap (λ (w : List ℕ). f.text ++ w) (same_arguments ts us k h.1)

    same_arguments : (ts : Phrases) (us : Terms) (k : List ℕ) → AreTermsOf block names.symbols vars ts us → arguments_text names number us ++ k ≡ arguments ts k
    same_arguments none nil k h = refl
    same_arguments none (cons u us) k h = absurd h
    same_arguments (more t ts) nil k h = absurd h
    same_arguments (more t ts) (cons u us) k h =
        ap (λ (w : List ℕ). 40 ∷ w) (append_assoc (term_text names number u) (further_text names number us) k
        ∙ ap (λ (w : List ℕ). term_text names number u ++ w) (same_further ts us k h.1)
        ∙ same_text t u (further ts k) h.0)

    same_further : (ts : Phrases) (us : Terms) (k : List ℕ) → AreTermsOf block names.symbols vars ts us → further_text names number us ++ k ≡ further ts k
    same_further none nil k h = refl
    same_further none (cons u us) k h = absurd h
    same_further (more t ts) nil k h = absurd h
    same_further (more t ts) (cons u us) k h =
        ap (λ (w : List ℕ). 44 ∷ w) (append_assoc (term_text names number u) (further_text names number us) k
        ∙ ap (λ (w : List ℕ). term_text names number u ++ w) (same_further ts us k h.1)
        ∙ same_text t u (further ts k) h.0)

  same_condition : (c : ConditionTree) (d : Condition) (k : List ℕ) → IsTermOf block names.symbols vars c.left d.left → IsTermOf block names.symbols vars c.right d.right
      → condition_text names number d ++ k ≡ condition c k
  same_condition c d k l r =
      append_assoc (term_text names number d.left) (codes " == " ++ term_text names number d.right) k
      ∙ ap (λ (w : List ℕ). term_text names number d.left ++ (32 ∷ 61 ∷ 61 ∷ 32 ∷ w)) (same_text c.right d.right k r)
      ∙ same_text c.left d.left (32 ∷ 61 ∷ 61 ∷ 32 ∷ text c.right k) l

  same_others : (cs : List ConditionTree) (ds : List Condition) (k : List ℕ) → AreConditionsOf block names.symbols vars cs ds → others_text names number ds ++ k ≡ others cs k
  same_others [] [] k h = refl
  same_others [] (d ∷ ds) k h = absurd h
  same_others (c ∷ cs) [] k h = absurd h
  same_others (c ∷ cs) (d ∷ ds) k h =
      ap (λ (w : List ℕ). 44 ∷ 32 ∷ w) (append_assoc (condition_text names number d) (others_text names number ds) k
      ∙ ap (λ (w : List ℕ). condition_text names number d ++ w) (same_others cs ds k h.2)
      ∙ same_condition c d (others cs k) h.0 h.1)

  same_guard : (g : Option Guard) (l r : Phrase) (ds : List Condition) (k : List ℕ) → AreConditionsOf block names.symbols vars (conditions_of (record { left = l; right = r; guard = g })) ds
      → conditions_text names number ds ++ k ≡ guarded g k
  same_guard None l r [] k h = refl
  same_guard None l r (d ∷ ds) k h = absurd h
  same_guard (Some g) l r [] k h = absurd h
  same_guard (Some g) l r (d ∷ ds) k h =
      ap (λ (w : List ℕ). 32 ∷ 124 ∷ 32 ∷ w) (append_assoc (condition_text names number d) (others_text names number ds) k
      ∙ ap (λ (w : List ℕ). condition_text names number d ++ w) (same_others g.others ds k h.2)
      ∙ same_condition g.first d (others g.others k) h.0 h.1)

same_rule : (names : NameTable) (number : ℕ) (block : List (List ℕ)) (t : RuleTree) (r : Rule) (k : List ℕ) → ((x : ℕ) → variable_at names number x ≡ slice_get (rule_variables block t) x)
    → IsRuleOf block names.symbols t r → rule_text names number r ++ k ≡ rule t k
same_rule names number block t r k there h =
    let vars = rule_variables block t in
    let left = term_text names number r.left in
    let right = term_text names number r.right in
    let conditions = conditions_text names number r.conditions in
    let last : (conditions ++ 10 ∷ []) ++ k ≡ guarded t.guard (10 ∷ k) =
    append_assoc conditions (10 ∷ []) k ∙ same_guard names number block vars there t.guard t.left t.right r.conditions (10 ∷ k) h.conditions in
    let second : (right ++ (conditions ++ 10 ∷ [])) ++ k ≡ text t.right (guarded t.guard (10 ∷ k)) =
    append_assoc right (conditions ++ 10 ∷ []) k ∙ ap (λ (w : List ℕ). right ++ w) last ∙ same_text names number block vars there t.right r.right (guarded t.guard (10 ∷ k)) h.right in
    let first : (left ++ (32 ∷ 45 ∷ 62 ∷ 32 ∷ (right ++ (conditions ++ 10 ∷ [])))) ++ k ≡ text t.left (32 ∷ 45 ∷ 62 ∷ 32 ∷ text t.right (guarded t.guard (10 ∷ k))) =
    append_assoc left (32 ∷ 45 ∷ 62 ∷ 32 ∷ (right ++ (conditions ++ 10 ∷ []))) k ∙ ap (λ (w : List ℕ). left ++ (32 ∷ 45 ∷ 62 ∷ 32 ∷ w)) second
    ∙ same_text names number block vars there t.left r.left (32 ∷ 45 ∷ 62 ∷ 32 ∷ text t.right (guarded t.guard (10 ∷ k))) h.left in
    ap (λ (w : List ℕ). 32 ∷ 32 ∷ w) first

-- The lists of the rules' variables stand at the rules' numbers.
abbrev pub AreListed : NameTable → ℕ → List (List (List ℕ)) → Type 0
AreListed names number [] = Unit {0}
AreListed names number (v ∷ vs) = ((x : ℕ) → variable_at names number x ≡ slice_get v x) × AreListed names (suc number) vs

pub same_rules : (names : NameTable) (number : ℕ) (block : List (List ℕ)) (ts : List RuleTree) (rs : List Rule) (k : List ℕ) → AreListed names number (map (rule_variables block) ts)
    → AreRulesOf block names.symbols ts rs → rules_text names number rs ++ k ≡ rules ts k
same_rules names number block [] [] k l h = refl
same_rules names number block [] (r ∷ rs) k l h = absurd h
same_rules names number block (t ∷ ts) [] k l h = absurd h
same_rules names number block (t ∷ ts) (r ∷ rs) k l h =
    append_assoc (rule_text names number r) (rules_text names (suc number) rs) k
    ∙ ap (λ (w : List ℕ). rule_text names number r ++ w) (same_rules names (suc number) block ts rs k l.1 h.1)
    ∙ same_rule names number block t r (rules ts k) l.0 h.0

-- ---- the names of the variables

-- the lists one after another
abbrev pub joined : List (List (List ℕ)) → List (List ℕ)
joined [] = []
joined (v ∷ vs) = v ++ joined vs

front_names : (names : NameTable) (number : ℕ) (v : List (List ℕ)) → ((x : ℕ) → variable_at names number x ≡ slice_get v x) → (n : ℕ) → n ≤ length v
    → map (variable_text names number) (upto n) ≡ take n v
front_names names number v there zero le = refl
front_names names number v there (suc n) le =
    let here : slice_get v n ≡ Some (get_or v n []) = slice_get_read v (length v) n (get_or v n []) refl (omega arith) (default_differs v n (omega arith)) in
    map-append (variable_text names number) (upto n) (n ∷ [])
    ∙ ap₂ (λ (xs : List (List ℕ)) (x : List ℕ). xs ++ x ∷ []) (front_names names number v there n (omega arith)) (ap (λ (o : Option (List ℕ)). unwrap_or o []) (there n ∙ here))
    ∙ sym (take-suc v n [] (omega arith))
  where
    default_differs : (xs : List (List ℕ)) (i : ℕ) → i < length xs → get_or xs i [] ≡ get_or xs i (get_or xs i [])
    default_differs [] i lt = absurd (omega arith)
    default_differs (x ∷ xs) zero lt = refl
    default_differs (x ∷ xs) (suc i) lt = default_differs xs i (omega arith)

pub same_names : (names : NameTable) (number : ℕ) (block : List (List ℕ)) (ts : List RuleTree) (rs : List Rule) → AreListed names number (map (rule_variables block) ts)
    → AreRulesOf block names.symbols ts rs → names_from names number rs ≡ joined (map (rule_variables block) ts)
same_names names number block [] [] l h = refl
same_names names number block [] (r ∷ rs) l h = absurd h
same_names names number block (t ∷ ts) [] l h = absurd h
same_names names number block (t ∷ ts) (r ∷ rs) l h =
    let v = rule_variables block t in
    let first : rule_names names number r ≡ v =
    ap (map (variable_text names number)) (variables_are block names.symbols t r h.0) ∙ front_names names number v l.0 (length v) (omega arith) ∙ take-length v in
    ap₂ (λ (xs ys : List (List ℕ)). xs ++ ys) first (same_names names (suc number) block ts rs l.1 h.1)

-- ---- conditions

-- whether some rule has a guard
abbrev pub has_guard : Option Guard → Bool
has_guard None = false
has_guard (Some g) = true

abbrev pub some_guard : List RuleTree → Bool
some_guard [] = false
some_guard (t ∷ ts) = has_guard t.guard || some_guard ts

guard_told : (block : List (List ℕ)) (table : List (List ℕ × ℕ)) (vars : List (List ℕ)) (g : Option Guard) (l r : Phrase) (ds : List Condition)
    → AreConditionsOf block table vars (conditions_of (record { left = l; right = r; guard = g })) ds → nat_lt 0 (length ds) ≡ has_guard g
guard_told block table vars None l r [] h = refl
guard_told block table vars None l r (d ∷ ds) h = absurd h
guard_told block table vars (Some g) l r [] h = absurd h
guard_told block table vars (Some g) l r (d ∷ ds) h = lt-ltb 0 (suc (length ds)) (omega arith)

pub same_guards : (block : List (List ℕ)) (table : List (List ℕ × ℕ)) (ts : List RuleTree) (rs : List Rule) → AreRulesOf block table ts rs → has_conditions rs ≡ some_guard ts
same_guards block table [] [] h = refl
same_guards block table [] (r ∷ rs) h = absurd h
same_guards block table (t ∷ ts) [] h = absurd h
same_guards block table (t ∷ ts) (r ∷ rs) h = ap₂ (λ (a b : Bool). a || b) (guard_told block table (rule_variables block t) t.guard t.left t.right r.conditions h.0.conditions)
    (same_guards block table ts rs h.1)

listed_behind : (vs : List (List (List ℕ))) (names : NameTable) (front : List (List (List ℕ))) (number : ℕ) → number ≡ suc (length front) → names.variables ≡ front ++ vs → AreListed names number vs
listed_behind [] names front number is e = tt
listed_behind (v ∷ vs) names front number is e =
    let here : slice_get names.variables (length front) ≡ Some v = ap (λ (w : List (List (List ℕ))). slice_get w (length front)) e ∙ slice_get_seam front v vs in (
      λ x. ap (λ (n : ℕ). variable_at names n x) is ∙ ap (λ (o : Option (List (List ℕ))). option_and_then (λ (w : List (List ℕ)). slice_get w x) o) here,
      listed_behind vs names (front ++ v ∷ []) (suc number) (omega (arith, is, length-append front (v ∷ []))) (e ∙ sym (append_assoc front (v ∷ []) vs)),
    )

pub are_listed : (names : NameTable) (vs : List (List (List ℕ))) → names.variables ≡ vs → AreListed names 1 vs
are_listed names vs e = listed_behind vs names [] 1 refl e
