-- What a generated system's trees mean, and how long their text is.
use Rattle.std.proofs.Common.{◌≡◌, ◌∙◌, ℕ, zero, suc, ◌+◌, ◌*◌, ◌<◌, ◌≤◌, Bool, true, false, List, [], ◌∷◌, ◌++◌, length, length-append, refl, sym, ap, subst, arith, codes, decimal}
use Rattle.std.specs.Prelude.{flat_map}
use Rattle.std.specs.List.{range_with_len}
use Rattle.cops_names.specs.NameLists.{with_names}
use Rattle.cops_names.proofs.Lists.{Extends, extends_refl}
use Rattle.cops_read.specs.File.{IsSystemOf}
use Rattle.cops_read.proofs.Events.{refusal_is}
use Rattle.cops_write.specs.Text.{type_text, system_text}
use Rattle.cops_write.proofs.FileText.{file_text}
use Rattle.cops_write.proofs.ReadBack.{same_text}
use Rattle.cops_write.proofs.SameText.{joined, some_guard}
use Rattle.cops_write.proofs.Trees.{rule, rules}
use Rattle.generated_systems.specs.Generated.{generated, generated_names, variables_for}
use Rattle.generator.proofs.Accepted.{rules_pass}
use Rattle.generator.proofs.Distinct.{symbol_count, arities_are}
use Rattle.generator.proofs.Identifiers.{few_digits, have_names}
use Rattle.generator.proofs.Trees.{Table, block, symbols_of, tree_of, tree_at_z, tree_at_s, guarded_tree, x_tree, next_tree, trees_for, all_mean, all_few, all_symbols, all_variables, tree_count}

pub means_it : (n : ℕ) → 1 ≤ n → n ≤ 200 → IsSystemOf (tree_of n) (generated n) (generated_names n)
means_it n g h =
    let few : length (symbols_of n) < 1000 = omega (arith, symbol_count n g) in
    let mean = all_mean n 0 n (omega arith) g h in
    record {
      accepted = refusal_is (tree_of n)
          ∙ rules_pass block (symbols_of n) few [] 1 (tree_of n).rules (generated n).rules
          (subst (λ (t : Table). Extends t (symbols_of n)) (sym (all_symbols n g h)) (extends_refl (symbols_of n))) mean (all_few 0 n)
          (omega (arith, tree_count 0 n));
      symbols = sym (all_symbols n g h);
      arities = sym (arities_are n);
      own = refl;
      variables = all_variables 0 n;
      rules = mean;
    }

no_more_names : (a m : ℕ) → with_names (codes "x" ∷ []) (joined (flat_map variables_for (range_with_len a m))) ≡ codes "x" ∷ []
no_more_names a zero = refl
no_more_names a (suc m) = no_more_names (a + 1) m

one_name : (n : ℕ) → 1 ≤ n → with_names [] (joined (flat_map variables_for (range_with_len 0 n))) ≡ codes "x" ∷ []
one_name zero g = absurd (omega arith)
one_name (suc m) g = no_more_names 1 m

module _ (k : ℕ) (h : k < 200) (rest : List ℕ) where
  behind_number : (tail : List ℕ) → length (decimal (suc k) ++ tail) ≤ 3 + length tail
  behind_number tail = omega (arith, length-append (decimal (suc k)) tail, few_digits k h)

  z_is_short : length (rule (tree_at_z k) rest) ≤ 40 + length rest
  z_is_short = omega (arith, behind_number)

  s_is_short : length (rule (tree_at_s k) rest) ≤ 40 + length rest
  s_is_short = omega (arith, behind_number)

  true_is_short : length (rule (guarded_tree k x_tree (codes "true")) rest) ≤ 60 + length rest
  true_is_short = omega (arith, behind_number)

false_is_short : (k : ℕ) → k < 200 → (rest : List ℕ) → length (rule (guarded_tree k (next_tree k) (codes "false")) rest) ≤ 60 + length rest
false_is_short zero h rest = omega (arith, behind_number 0 h rest)
false_is_short (suc k) h rest = omega (arith, behind_number (suc k) h rest, behind_number k (omega arith) rest)

rules_are_short : (a m : ℕ) → a + m ≤ 200 → (rest : List ℕ) → length (rules (flat_map trees_for (range_with_len a m)) rest) ≤ 200 * m + length rest
rules_are_short a zero l rest = omega arith
rules_are_short a (suc m) l rest =
    let here : a < 200 = omega arith in
    let fourth = rules (flat_map trees_for (range_with_len (a + 1) m)) rest in
    let third = rule (guarded_tree a (next_tree a) (codes "false")) fourth in
    let second = rule (guarded_tree a x_tree (codes "true")) third in
    omega (arith, z_is_short a here (rule (tree_at_s a) second), s_is_short a here second, true_is_short a here third, false_is_short a here fourth, rules_are_short (a + 1) m (omega arith) rest)

type_is_short : (b : Bool) → length (type_text b) ≤ 30
type_is_short true = omega arith
type_is_short false = omega arith

pub text_is_short : (n : ℕ) → 1 ≤ n → n ≤ 200 → length (system_text (generated_names n) (generated n)) ≤ 1048576
text_is_short n g h =
    let trees = flat_map trees_for (range_with_len 0 n) in
    let typed = some_guard trees in
    let last : List ℕ = rules trees (codes ")\n") in
    let names = ap (λ (vs : List (List (List ℕ))). with_names [] (joined vs)) (sym (all_variables 0 n)) ∙ one_name n g in
    let text = same_text (tree_of n) (generated n) (generated_names n) (means_it n g h) (have_names 0 n (omega arith)) ∙ ap (λ (xs : List (List ℕ)). file_text typed xs trees) names in
    let whole = ap length text in
    omega (arith, whole, length-append (type_text typed) (codes "(VAR x)\n(RULES\n" ++ last), type_is_short typed, rules_are_short 0 n (omega arith) (codes ")\n"))
