-- A generated system is a system.
use Rattle.std.proofs.Common.{◌≡◌, ℕ, zero, suc, ◌+◌, ◌-◌, ◌*◌, ◌<◌, ◌≤◌, List, [], ◌∷◌, ◌++◌, length, Some, refl, ap, subst, sym, ◌∙◌, arith, append_assoc, map}
use Rattle.std.specs.Prelude.{flat_map, replicate, slice_get}
use Rattle.std.specs.List.{range_with_len}
use Rattle.std.proofs.lemmas.List.{length-replicate, map-append}
use Rattle.rewriting.specs.Prelude.{app, nil, cons, Fits, IsOver, Rule, system_of, IsRule, AreRules, condition_count, IsSystem, rule_variables}
use Rattle.term_core.specs.RuleView.{rule_view, AreCounted}
use Rattle.term_core.specs.declared.systems.Rule as program
use Rattle.generated_systems.specs.Generated.{arities, p_symbol, f_symbol, p_of, z, true, s_of, false, x, next_of, rules_for, generated}
use Rattle.generated_systems.proofs.Runs.{fits_constant, fits_over_constant}
use Rattle.generator.specs.RuleParts.{guarded, IsRuleAt, AreAdded}

one_at : (n i : ℕ) → i < n → slice_get {X = ℕ} (replicate n 1) i ≡ Some 1
one_at zero i h = absurd (omega arith)
one_at (suc n) zero h = refl
one_at (suc n) (suc i) h = one_at n i (omega arith)

behind_six : (n i j : ℕ) → suc (suc (suc (suc (suc (suc i))))) ≡ j → i < 2 * (n - 1) → slice_get {X = ℕ} (arities n) j ≡ Some 1
behind_six n i j e h = subst (λ (m : ℕ). slice_get {X = ℕ} (arities n) m ≡ Some 1) e (one_at (2 * (n - 1)) i h)

p_arity : (n k : ℕ) → k < n → slice_get {X = ℕ} (arities n) (p_symbol k) ≡ Some 1
p_arity n zero h = refl
p_arity n (suc k) h = behind_six n (2 * k) (6 + 2 * k) (omega arith) (omega arith)

f_arity : (n k : ℕ) → k < n → slice_get {X = ℕ} (arities n) (f_symbol k) ≡ Some 1
f_arity n zero h = refl
f_arity n (suc k) h = behind_six n (2 * k + 1) (5 + 2 * suc k) (omega arith) (omega arith)

next_over : (n k : ℕ) → k < n → IsOver (arities n) (next_of k)
next_over n zero h = (refl, (tt, tt))
next_over n (suc k) h = (f_arity n k (omega arith), (tt, tt))

x_fits : Fits x
x_fits = record { nodes = omega arith; levels = omega arith }

on_x_fits : (f : ℕ) → Fits (app f (cons x nil))
on_x_fits f = record { nodes = omega arith; levels = omega arith }

nested_fits : (f g : ℕ) → Fits (app f (cons (app g (cons x nil)) nil))
nested_fits f g = record { nodes = omega arith; levels = omega arith }

next_fits : (k : ℕ) → Fits (next_of k)
next_fits zero = on_x_fits 3
next_fits (suc k) = on_x_fits (f_symbol k)

rule_at_z : (n k : ℕ) → k < n → IsRule (arities n) (record { left = p_of k z; right = true; conditions = [] })
rule_at_z n k h = record {
  is_over = record { over = ((p_arity n k h, ((refl, tt), tt)), ((refl, tt), tt)); left = λ v. v };
  numbered = tt;
  few_variables = omega arith;
  few_conditions = omega arith;
  fits = (fits_over_constant (p_symbol k) 1, (fits_constant 2, tt));
}

rule_at_s : (n k : ℕ) → k < n → IsRule (arities n) (record { left = p_of k (s_of x); right = false; conditions = [] })
rule_at_s n k h = record {
  is_over = record { over = ((p_arity n k h, ((refl, (tt, tt)), tt)), ((refl, tt), tt)); left = λ v. v };
  numbered = (refl, tt);
  few_variables = omega arith;
  few_conditions = omega arith;
  fits = (nested_fits (p_symbol k) 3, (fits_constant 4, tt));
}

rule_of_true : (n k : ℕ) → k < n → IsRule (arities n) (guarded k x 2)
rule_of_true n k h = record {
  is_over = record { over = ((f_arity n k h, (tt, tt)), (tt, ((p_arity n k h, (tt, tt)), ((refl, tt), tt)))); left = λ v. v };
  numbered = (refl, tt);
  few_variables = omega arith;
  few_conditions = omega arith;
  fits = (on_x_fits (f_symbol k), (x_fits, (on_x_fits (p_symbol k), (fits_constant 2, tt))));
}

next_variables : (k : ℕ) → rule_variables (guarded k (next_of k) 4) ≡ 0 ∷ []
next_variables zero = refl
next_variables (suc k) = refl

rule_of_false : (n k : ℕ) → k < n → IsRule (arities n) (guarded k (next_of k) 4)
rule_of_false n k h =
    let one = next_variables k in
    record {
      is_over = record { over = ((f_arity n k h, (tt, tt)), (next_over n k h, ((p_arity n k h, (tt, tt)), ((refl, tt), tt)))); left = λ v. v };
      numbered = rw one (refl, tt);
      few_variables = rw one (omega arith);
      few_conditions = omega arith;
      fits = (on_x_fits (f_symbol k), (next_fits k, (on_x_fits (p_symbol k), (fits_constant 4, tt))));
    }

are_rules : (n a m : ℕ) → a + m ≤ n → AreRules (arities n) (flat_map rules_for (range_with_len a m))
are_rules n a zero h = tt
are_rules n a (suc m) h =
    let l : a < n = omega arith in (rule_at_z n a l, (rule_at_s n a l, (rule_of_true n a l, (rule_of_false n a l, are_rules n (a + 1) m (omega arith)))))

conditions : (a m : ℕ) → condition_count (flat_map rules_for (range_with_len a m)) ≡ 2 * m
conditions a zero = refl
conditions a (suc m) = let h = conditions (a + 1) m in omega arith

pub rule_count : (a m : ℕ) → length (flat_map rules_for (range_with_len a m)) ≡ 4 * m
rule_count a zero = refl
rule_count a (suc m) = let h = rule_count (a + 1) m in omega arith

pub is_system : (n : ℕ) → n ≤ 200 → IsSystem (generated n)
is_system n h =
    let cs = conditions 0 n in
    record {
      rules = are_rules n 0 n (omega arith);
      few_symbols = omega (arith, cs, length-replicate {A = ℕ} (2 * (n - 1)) 1);
      few_rules = omega (arith, cs, rule_count 0 n);
    }

-- arities and rules that are those of a generated system make it
module _ (n : ℕ) (symbols : List ℕ) (rules : List program.Rule) (h : n ≤ 200) (symbols_are : symbols ≡ arities n) (rules_are : map rule_view rules ≡ (generated n).rules) where
  pub made : system_of symbols (map rule_view rules) ≡ generated n
  made = ap (λ (a : List ℕ). system_of a (map rule_view rules)) symbols_are ∙ ap (λ (rs : List Rule). system_of (arities n) rs) rules_are

  pub is_made : IsSystem (system_of symbols (map rule_view rules))
  is_made = subst IsSystem (sym made) (is_system n h)

counted_behind : (old new : List program.Rule) → AreCounted old → AreCounted new → AreCounted (old ++ new)
counted_behind [] new h k = k
counted_behind (r ∷ old) new h k = (h.0, counted_behind old new h.1 k)

four : {A : Type 0} (old one two three all : List A) (a b c d : A) → one ≡ old ++ a ∷ [] → two ≡ one ++ b ∷ [] → three ≡ two ++ c ∷ [] → all ≡ three ++ d ∷ [] → all ≡ old ++ a ∷ b ∷ c ∷ d ∷ []
four old one two three all a b c d e f g h =
    h ∙ ap (λ (xs : List _). xs ++ d ∷ []) (g ∙ ap (λ (xs : List _). xs ++ c ∷ []) (f ∙ ap (λ (xs : List _). xs ++ b ∷ []) e))
    ∙ append_assoc ((old ++ a ∷ []) ++ b ∷ []) (c ∷ []) (d ∷ []) ∙ append_assoc (old ++ a ∷ []) (b ∷ []) (c ∷ d ∷ []) ∙ append_assoc old (a ∷ []) (b ∷ c ∷ d ∷ [])

the_four : (k : ℕ) (a b c d : Rule) → slice_get (rules_for k) 0 ≡ Some a → slice_get (rules_for k) 1 ≡ Some b → slice_get (rules_for k) 2 ≡ Some c → slice_get (rules_for k) 3 ≡ Some d
    → a ∷ b ∷ c ∷ d ∷ [] ≡ rules_for k
the_four k a b c d e f g h = cc

pub added : (k : ℕ) (old one two three all : List program.Rule) (a b c d : program.Rule) → one ≡ old ++ a ∷ [] → two ≡ one ++ b ∷ [] → three ≡ two ++ c ∷ [] → all ≡ three ++ d ∷ []
    → IsRuleAt k 0 a → IsRuleAt k 1 b → IsRuleAt k 2 c → IsRuleAt k 3 d → AreAdded k old all
added k old one two three all a b c d e f g h at0 at1 at2 at3 =
    let whole = four old one two three all a b c d e f g h in
    record {
      rules = ap (map rule_view) whole ∙ map-append rule_view old (a ∷ b ∷ c ∷ d ∷ []) ∙ ap (λ (rs : List Rule). map rule_view old ++ rs)
          (the_four k (rule_view a) (rule_view b) (rule_view c) (rule_view d) at0.is at1.is at2.is at3.is);
      counted = λ before. subst AreCounted (sym whole) (counted_behind old (a ∷ b ∷ c ∷ d ∷ []) before (at0.counted, (at1.counted, (at2.counted, (at3.counted, tt)))));
    }
