-- The syntax trees of a generated system's rules, and what they mean.
use Rattle.std.proofs.Common.{◌≡◌, ℕ, zero, suc, ◌+◌, ◌-◌, ◌*◌, ◌<◌, ◌≤◌, List, [], ◌∷◌, ◌++◌, length, Option, Some, None, refl, sym, ap, ap₂, subst, ◌∙◌, arith, codes, append_assoc, length-append}
use Rattle.std.specs.Prelude.{flat_map, map, option_map, slice_get, is_some, if◌then◌else◌}
use Rattle.std.specs.Fmt.{digits}
use Rattle.std.specs.List.{range_with_len}
use Rattle.file_text.specs.declared.ConditionType.TheVariants.{Oriented}
use Rattle.file_text.specs.Syntax.{Name, Phrase, Phrases, word, call, none, more, count, RuleTree, FileTree}
use Rattle.rewriting.specs.Prelude.{Term, var, app, Terms, nil, cons, Rule, terms_of_rule}
use Rattle.cops_names.specs.NameTable.{number_of}
use Rattle.cops_names.proofs.Lists.{Extends, extends_refl, extends_trans}
use Rattle.cops_read.specs.Meaning.{phrases_of_rule, rule_variables, with_symbol, with_symbols, with_all_symbols, with_rule_symbols, IsSymbolOf, IsTermOf, AreTermsOf, IsRuleOf, AreRulesOf}
use Rattle.cops_read.specs.Walks.{nodes}
use Rattle.cops_read.proofs.Growth.{symbol_grows}
use Rattle.cops_read.proofs.Sound.{terms_are}
use Rattle.cops_read.proofs.Uses.{with_fresh, put_last}
use Rattle.generated_systems.specs.Generated.{p_symbol, f_symbol, p_name, f_name, p_of, x, z, s_of, next_of, rules_for, symbols_for, variables_for, generated_names}
use Rattle.generated_systems.specs.Generated as generated
use Rattle.generator.specs.RuleParts.{guarded}
use Rattle.generator.proofs.Distinct.{p_is_new, f_is_new, next_symbols, symbol_count}
use Rattle.generator.proofs.Accepted.{AreAllFew}

abbrev pub Table : Type 0
Table = List (List ℕ × ℕ)

-- the variables' block
abbrev pub block : List (List ℕ)
block = codes "x" ∷ []

-- places play no part
abbrev pub named : List ℕ → Name
named text = record { at = 0; text = text }

abbrev pub constant : List ℕ → Phrase
constant text = word (named text)

abbrev pub applied : List ℕ → Phrase → Phrase
applied text p = call (named text) (more p none)

abbrev pub x_tree : Phrase
x_tree = word (named (codes "x"))

abbrev pub next_tree : ℕ → Phrase
next_tree zero = applied (codes "s") x_tree
next_tree (suc k) = applied (f_name k) x_tree

abbrev pub tree_at_z : ℕ → RuleTree
tree_at_z k = record { left = applied (p_name k) (constant (codes "z")); right = constant (codes "true"); guard = None }

abbrev pub tree_at_s : ℕ → RuleTree
tree_at_s k = record { left = applied (p_name k) (applied (codes "s") x_tree); right = constant (codes "false"); guard = None }

abbrev pub guarded_tree : ℕ → Phrase → List ℕ → RuleTree
guarded_tree k right value =
    record { left = applied (f_name k) x_tree; right = right; guard = Some (record { at = 0; first = record { left = applied (p_name k) x_tree; right = constant value }; others = [] }) }

abbrev pub trees_for : ℕ → List RuleTree
trees_for k = tree_at_z k ∷ tree_at_s k ∷ guarded_tree k x_tree (codes "true") ∷ guarded_tree k (next_tree k) (codes "false") ∷ []

abbrev pub tree_of : ℕ → FileTree
tree_of n = record { condition_type = Some Oriented; variables = named (codes "x") ∷ []; rules = flat_map trees_for (range_with_len 0 n) }

-- what the symbols are in a table
record Constants (table : Table) : Type 0 where
  z : IsSymbolOf block table (codes "z") 0 1
  true : IsSymbolOf block table (codes "true") 0 2
  s : IsSymbolOf block table (codes "s") 1 3
  false : IsSymbolOf block table (codes "false") 0 4

abbrev IsP : Table → ℕ → Type 0
IsP table k = IsSymbolOf block table (p_name k) 1 (p_symbol k)

abbrev IsF : Table → ℕ → Type 0
IsF table k = IsSymbolOf block table (f_name k) 1 (f_symbol k)

-- the symbol that fk goes on with
abbrev IsNext : Table → ℕ → Type 0
IsNext table zero = Unit {0}
IsNext table (suc k) = IsF table k

module _ (table : Table) (cs : Constants table) (k : ℕ) where
  at_z_means : IsP table k → IsRuleOf block table (tree_at_z k) (record { left = p_of k z; right = generated.true; conditions = [] })
  at_z_means p = record { left = (p, ((cs.z, refl), tt)); right = (cs.true, refl); conditions = tt }

  at_s_means : IsP table k → IsRuleOf block table (tree_at_s k) (record { left = p_of k (s_of x); right = generated.false; conditions = [] })
  at_s_means p = record { left = (p, ((cs.s, ((refl, refl), tt)), tt)); right = (cs.false, refl); conditions = tt }

  true_means : IsP table k → IsF table k → IsRuleOf block table (guarded_tree k x_tree (codes "true")) (guarded k x 2)
  true_means p f = record { left = (f, ((refl, refl), tt)); right = (refl, refl); conditions = ((p, ((refl, refl), tt)), (cs.true, refl), tt) }

false_means : (table : Table) → Constants table → (k : ℕ) → IsP table k → IsF table k → IsNext table k → IsRuleOf block table (guarded_tree k (next_tree k) (codes "false")) (guarded k (next_of k) 4)
false_means table cs zero p f n = record { left = (f, ((refl, refl), tt)); right = (cs.s, ((refl, refl), tt)); conditions = ((p, ((refl, refl), tt)), (cs.false, refl), tt) }
false_means table cs (suc k) p f n = record { left = (f, ((refl, refl), tt)); right = (n, ((refl, refl), tt)); conditions = ((p, ((refl, refl), tt)), (cs.false, refl), tt) }

-- a phrase whose symbols the table has adds none
module _ (table : Table) (vars : List (List ℕ)) where
  has_it : (name : List ℕ) (n f : ℕ) → number_of table name ≡ Some f → with_symbol table name n ≡ table
  has_it name n f h = ap (λ (o : Option ℕ). if is_some o then table else (table ++ (name, n) ∷ [])) h

  mutual
    stays : (p : Phrase) (t : Term) → IsTermOf block table vars p t → with_symbols block table p ≡ table
    stays (word f) (var y) h = rw h.0 refl
    stays (word f) (app g us) h = rw h.0.0 (has_it f.text 0 g h.0.1)
    stays (call f ts) (var y) h = absurd h
    stays (call f ts) (app g us) h = ap (λ (w : Table). with_all_symbols block w ts) (has_it f.text (count ts) g h.0.1) ∙ all_stay ts us h.1

    all_stay : (ps : Phrases) (ts : Terms) → AreTermsOf block table vars ps ts → with_all_symbols block table ps ≡ table
    all_stay none ts h = refl
    all_stay (more p ps) nil h = absurd h
    all_stay (more p ps) (cons t ts) h = ap (λ (w : Table). with_all_symbols block w ps) (stays p t h.0) ∙ all_stay ps ts h.1

rule_stays : (table : Table) (tree : RuleTree) (r : Rule) → IsRuleOf block table tree r → with_all_symbols block table (phrases_of_rule tree) ≡ table
rule_stays table tree r h = all_stay table (rule_variables block tree) (phrases_of_rule tree) (terms_of_rule r) (terms_are block table tree r h)

-- the symbols of the system with a number
abbrev pub symbols_of : ℕ → Table
symbols_of k = (generated_names k).symbols

with_p : ℕ → Table
with_p k = symbols_of k ++ (p_name k, 1) ∷ []

with_f : (k : ℕ) → 1 ≤ k → with_p k ++ (f_name k, 1) ∷ [] ≡ symbols_of (suc k)
unfolding with_p
with_f k g = append_assoc (symbols_of k) ((p_name k, 1) ∷ []) ((f_name k, 1) ∷ []) ∙ next_symbols k g

longer_by_one : (k : ℕ) → 1 ≤ k → Extends (symbols_of k) (symbols_of (suc k))
longer_by_one k g = record { rest = symbols_for k; split = sym (next_symbols k g) }

longer : (j d m : ℕ) → 1 ≤ j → j + d ≡ m → Extends (symbols_of j) (symbols_of m)
longer j zero m g e = let same : j ≡ m = omega arith in subst (λ (i : ℕ). Extends (symbols_of j) (symbols_of i)) same (extends_refl (symbols_of j))
longer j (suc d) m g e =
    let same : suc (j + d) ≡ m = omega arith in
    subst (λ (i : ℕ). Extends (symbols_of j) (symbols_of i)) same (extends_trans _ _ _ (longer j d (j + d) g refl) (longer_by_one (j + d) (omega arith)))

constants_grow : (table whole : Table) → Extends table whole → Constants table → Constants whole
constants_grow table whole e c = record {
  z = symbol_grows block table whole (codes "z") 0 1 e c.z;
  true = symbol_grows block table whole (codes "true") 0 2 e c.true;
  s = symbol_grows block table whole (codes "s") 1 3 e c.s;
  false = symbol_grows block table whole (codes "false") 0 4 e c.false;
}

constants : (k : ℕ) → 1 ≤ k → Constants (symbols_of k)
constants k g = constants_grow (symbols_of 1) (symbols_of k) (longer 1 (k - 1) k (omega arith) (omega arith))
    (record { z = (refl, refl, refl); true = (refl, refl, refl); s = (refl, refl, refl); false = (refl, refl, refl) })

first_p : IsP (symbols_of 1) 0
unfolding digits
first_p = (refl, refl, refl)

first_f : IsF (symbols_of 1) 0
unfolding digits
first_f = (refl, refl, refl)

p_number : (k : ℕ) → 1 ≤ k → 4 + 2 * k ≡ p_symbol k
p_number zero g = absurd (omega arith)
p_number (suc k) g = omega arith

p_put : (k : ℕ) → 1 ≤ k → k < 200 → IsP (with_p k) k
unfolding with_p
p_put k g h =
    let put = put_last (symbols_of k) (p_name k) 1 (p_is_new k g h) in
    let number : length (symbols_of k) ≡ p_symbol k = symbol_count k g ∙ p_number k g in
    (refl, put.0 ∙ ap Some number, subst (λ (i : ℕ). option_map (λ (s : List ℕ × ℕ). s.1) (slice_get (with_p k) i) ≡ Some 1) number put.1)

f_put : (k : ℕ) → 1 ≤ k → k < 200 → IsF (symbols_of (suc k)) k
unfolding with_p
f_put k g h =
    let put = put_last (with_p k) (f_name k) 1 (f_is_new k g h) in
    let number : length (with_p k) ≡ f_symbol k = omega (arith, length-append (symbols_of k) ((p_name k, 1) ∷ []), symbol_count k g) in
    subst (λ (t : Table). IsSymbolOf block t (f_name k) 1 (f_symbol k)) (with_f k g)
    (refl, put.0 ∙ ap Some number, subst (λ (i : ℕ). option_map (λ (s : List ℕ × ℕ). s.1) (slice_get (with_p k ++ (f_name k, 1) ∷ []) i) ≡ Some 1) number put.1)

p_first_longer : (k : ℕ) → 1 ≤ k → Extends (with_p k) (symbols_of (suc k))
p_first_longer k g = record { rest = (f_name k, 1) ∷ []; split = sym (with_f k g) }

p_stands : (k m : ℕ) → k < m → m ≤ 200 → IsP (symbols_of m) k
p_stands zero m l h = symbol_grows block (symbols_of 1) (symbols_of m) (p_name 0) 1 0 (longer 1 (m - 1) m (omega arith) (omega arith)) first_p
p_stands (suc k) m l h =
    symbol_grows block (with_p (suc k)) (symbols_of m) (p_name (suc k)) 1 (p_symbol (suc k))
    (extends_trans _ _ _ (p_first_longer (suc k) (omega arith)) (longer (suc (suc k)) (m - suc (suc k)) m (omega arith) (omega arith))) (p_put (suc k) (omega arith) (omega arith))

f_stands : (k m : ℕ) → k < m → m ≤ 200 → IsF (symbols_of m) k
f_stands zero m l h = symbol_grows block (symbols_of 1) (symbols_of m) (f_name 0) 1 5 (longer 1 (m - 1) m (omega arith) (omega arith)) first_f
f_stands (suc k) m l h =
    symbol_grows block (symbols_of (suc (suc k))) (symbols_of m) (f_name (suc k)) 1 (f_symbol (suc k))
    (longer (suc (suc k)) (m - suc (suc k)) m (omega arith) (omega arith)) (f_put (suc k) (omega arith) (omega arith))

next_stands : (k m : ℕ) → k < m → m ≤ 200 → IsNext (symbols_of m) k
next_stands zero m l h = tt
next_stands (suc k) m l h = f_stands k m (omega arith) h

-- all rules have their meaning under the symbols of the system
pub all_mean : (n a m : ℕ) → a + m ≤ n → 1 ≤ n → n ≤ 200 → AreRulesOf block (symbols_of n) (flat_map trees_for (range_with_len a m)) (flat_map rules_for (range_with_len a m))
all_mean n a zero l g h = tt
all_mean n a (suc m) l g h =
    let table = symbols_of n in
    let cs = constants n g in
    let p = p_stands a n (omega arith) h in
    let f = f_stands a n (omega arith) h in
    (at_z_means table cs a p, (at_s_means table cs a p, (true_means table cs a p f, (false_means table cs a p f (next_stands a n (omega arith) h), all_mean n (a + 1) m (omega arith) g h))))

-- what the rules add to the table of symbols
with_p_longer : (k : ℕ) → Extends (symbols_of k) (with_p k)
unfolding with_p
with_p_longer k = record { rest = (p_name k, 1) ∷ []; split = refl }

abbrev after_rule : Table → RuleTree → Table
after_rule table tree = with_all_symbols block table (phrases_of_rule tree)

z_adds : (k : ℕ) → 1 ≤ k → k < 200 → after_rule (symbols_of k) (tree_at_z k) ≡ with_p k
unfolding with_p
z_adds k g h =
    let cs = constants_grow (symbols_of k) (with_p k) (with_p_longer k) (constants k g) in
    let rest : Phrases = more (constant (codes "z")) (more (constant (codes "true")) none) in
    ap (λ (w : Table). with_all_symbols block w rest) (with_fresh (symbols_of k) (p_name k) 1 (p_is_new k g h))
    ∙ all_stay (with_p k) [] rest (cons z (cons generated.true nil)) ((cs.z, refl), ((cs.true, refl), tt))

true_adds : (k : ℕ) → 1 ≤ k → k < 200 → after_rule (with_p k) (guarded_tree k x_tree (codes "true")) ≡ symbols_of (suc k)
unfolding with_p
true_adds k g h =
    let cs = constants (suc k) (omega arith) in
    let p = p_stands k (suc k) (omega arith) (omega arith) in
    let rest : Phrases = more x_tree (more (applied (p_name k) x_tree) (more (constant (codes "true")) none)) in
    ap (λ (w : Table). with_all_symbols block w rest) (with_fresh (with_p k) (f_name k) 1 (f_is_new k g h) ∙ with_f k g)
    ∙ all_stay (symbols_of (suc k)) (codes "x" ∷ []) rest (cons x (cons (p_of k x) (cons generated.true nil))) ((refl, refl), ((p, ((refl, refl), tt)), ((cs.true, refl), tt)))

after_four : Table → ℕ → Table
after_four table k = after_rule (after_rule (after_rule (after_rule table (tree_at_z k)) (tree_at_s k)) (guarded_tree k x_tree (codes "true"))) (guarded_tree k (next_tree k) (codes "false"))

four_add : (k m : ℕ) → suc k ≡ m → 1 ≤ k → k < 200 → after_four (symbols_of k) k ≡ symbols_of m
unfolding after_four
four_add k m e g h =
    let last = guarded_tree k (next_tree k) (codes "false") in
    let third = guarded_tree k x_tree (codes "true") in
    let early = constants_grow (symbols_of k) (with_p k) (with_p_longer k) (constants k g) in
    let table = symbols_of (suc k) in
    ap (λ (w : Table). after_rule (after_rule (after_rule w (tree_at_s k)) third) last) (z_adds k g h)
    ∙ ap (λ (w : Table). after_rule (after_rule w third) last) (rule_stays (with_p k) (tree_at_s k) _ (at_s_means (with_p k) early k (p_put k g h)))
    ∙ ap (λ (w : Table). after_rule w last) (true_adds k g h)
    ∙ rule_stays table last _ (false_means table (constants (suc k) (omega arith)) k (p_stands k (suc k) (omega arith) (omega arith))
    (f_stands k (suc k) (omega arith) (omega arith)) (next_stands k (suc k) (omega arith) (omega arith)))
    ∙ ap symbols_of e

first_four : after_four [] 0 ≡ symbols_of 1
unfolding after_four digits
first_four = refl

from_one : (a m n : ℕ) → a + m ≡ n → 1 ≤ a → n ≤ 200 → with_rule_symbols block (symbols_of a) (flat_map trees_for (range_with_len a m)) ≡ symbols_of n
unfolding after_four
from_one a zero n e g h = let same : a ≡ n = omega arith in ap symbols_of same
from_one a (suc m) n e g h =
    ap (λ (w : Table). with_rule_symbols block w (flat_map trees_for (range_with_len (a + 1) m))) (four_add a (a + 1) (omega arith) g (omega arith))
    ∙ from_one (a + 1) m n (omega arith) (omega arith) h

pub all_symbols : (n : ℕ) → 1 ≤ n → n ≤ 200 → with_rule_symbols block [] (flat_map trees_for (range_with_len 0 n)) ≡ symbols_of n
unfolding after_four
all_symbols zero g h = absurd (omega arith)
all_symbols (suc m) g h = ap (λ (w : Table). with_rule_symbols block w (flat_map trees_for (range_with_len 1 m))) first_four ∙ from_one 1 m (suc m) (omega arith) (omega arith) h

-- the names of the rules' variables
next_variables : (k : ℕ) → rule_variables block (guarded_tree k (next_tree k) (codes "false")) ≡ codes "x" ∷ []
next_variables zero = refl
next_variables (suc k) = refl

pub all_variables : (a m : ℕ) → flat_map variables_for (range_with_len a m) ≡ map (rule_variables block) (flat_map trees_for (range_with_len a m))
all_variables a zero = refl
all_variables a (suc m) =
    ap₂ (λ (v : List (List ℕ)) (vs : List (List (List ℕ))). [] ∷ (codes "x" ∷ []) ∷ (codes "x" ∷ []) ∷ v ∷ vs) (sym (next_variables a)) (all_variables (a + 1) m)

-- the rules are small
next_nodes : (k : ℕ) → nodes (next_tree k) ≤ 19
next_nodes zero = omega arith
next_nodes (suc k) = omega arith

pub all_few : (a m : ℕ) → AreAllFew block (flat_map trees_for (range_with_len a m)) (flat_map rules_for (range_with_len a m))
all_few a zero = tt
all_few a (suc m) = (
  record { left = λ v. v; left_nodes = omega arith; right_nodes = omega arith; conditions = tt; few_conditions = omega arith; few_variables = omega arith },
  (
    record { left = λ v. v; left_nodes = omega arith; right_nodes = omega arith; conditions = tt; few_conditions = omega arith; few_variables = omega arith },
    (
      record { left = λ v. v; left_nodes = omega arith; right_nodes = omega arith; conditions = (omega arith, omega arith, tt); few_conditions = omega arith; few_variables = omega arith },
      (
        record {
          left = λ v. v;
          left_nodes = omega arith;
          right_nodes = next_nodes a;
          conditions = (omega arith, omega arith, tt);
          few_conditions = omega arith;
          few_variables = let one = ap length (next_variables a) in omega arith;
        },
        all_few (a + 1) m,
      ),
    ),
  ),
)

pub tree_count : (a m : ℕ) → length (flat_map trees_for (range_with_len a m)) ≡ 4 * m
tree_count a zero = refl
tree_count a (suc m) = let h = tree_count (a + 1) m in omega arith
