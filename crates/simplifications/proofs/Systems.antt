-- Good steps lead from systems as files give them to such systems, with fewer rules and conditions.
use Rattle.std.proofs.Common.{◌≡◌, ℕ, zero, suc, ◌+◌, ◌*◌, ◌^◌, ◌≤◌, ◌<◌, Bool, true, false, sym, subst, List, [], ◌∷◌, ◌++◌, length, map, take, drop, slice_get, Some, nat_eq, if◌then◌else◌, arith}
use Rattle.rewriting.specs.Prelude.{Each, terms_of_rule, rule_variables, CountsFrom, IsRuleOver, IsRule, AreRules, condition_count, IsSystem, Fits, size_all, count, replacing}
use Rattle.rewriting.proofs.Common.{Term, var, app, apply, Signature, IsOver, Condition, Rule, System, sides, variables_of}
use Rattle.rewriting.proofs.Leaves.{fits_under, variables_are_leaves}
use Rattle.rewriting.proofs.Lengths.{variables_length}
use Rattle.rewriting.proofs.Over.{IsOver-apply}
use Rattle.rewriting.proofs.Systems.{is_rule_at}
use Rattle.rewriting.proofs.Conditions.{length-conditions_under}
use Rattle.rewriting.proofs.Unraveled.{no_variable_under}
use Rattle.certificates.specs.Certificates.{Simplification, dropped, inlined}
use Rattle.simplifications.specs.Inlining.{left_under, inlined_rule, numbering_of, numbered}
use Rattle.simplifications.specs.Simplifying.{with_in_place, Simplifies}
use Rattle.simplifications.specs.Laws.{parts, SimplificationsMakeSystems, SimplificationsShrink}
use Rattle.simplifications.proofs.Anew.{numbered_counts}
use Rattle.simplifications.proofs.Parts.{each_append, each_front, each_behind, each_left_under, each_rule_under, terms_under, all_small, count_sides, length_replaced}
use Rattle.simplifications.proofs.Parts.{length_without, count_replaced, rules_replaced}
use Rattle.simplifications.proofs.Rules.{split_at}

module _ (ar : Signature) (r : Rule) (h : IsRuleOver ar r) (k : ℕ) (c : Condition) (x : ℕ) (at : slice_get r.conditions k ≡ Some c) where
  split_over : Each (IsOver ar) (sides (take k r.conditions ++ c ∷ drop (suc k) r.conditions))
  split_over = subst (λ cs. Each (IsOver ar) (sides cs)) (split_at r.conditions k c at) h.over.1.1

  behind_over : Each (IsOver ar) (sides (c ∷ drop (suc k) r.conditions))
  behind_over = each_behind (IsOver ar) (take k r.conditions) (c ∷ drop (suc k) r.conditions) split_over

  pub condition_over : IsOver ar c.left
  condition_over = behind_over.0

  replacing_over : (y : ℕ) → IsOver ar (replacing x c.left y)
  replacing_over y = go (nat_eq y x)
    where
      go : (b : Bool) → IsOver ar (if b then c.left else var y)
      go true = condition_over
      go false = tt

  replaced_over : (t : Term) → IsOver ar t → IsOver ar (apply (replacing x c.left) t)
  replaced_over t o = IsOver-apply ar (replacing x c.left) t replacing_over o

  pub inlined_over : IsRuleOver ar (inlined_rule r k c.left x)
  inlined_over =
      record {
        over = (
          h.over.0,
          (
            replaced_over r.right h.over.1.0,
            each_append (IsOver ar) (take k r.conditions) (map (left_under (replacing x c.left)) (drop (suc k) r.conditions))
                (each_front (IsOver ar) (take k r.conditions) (c ∷ drop (suc k) r.conditions) split_over)
                (each_left_under (IsOver ar) (replacing x c.left) replaced_over (drop (suc k) r.conditions) behind_over.1.1),
          ),
        );
        left = h.left;
      }

-- the variables of terms that fit are few
pub few_variables_of : (r : Rule) → length r.conditions ≤ 100 → Each Fits (terms_of_rule r) → length (rule_variables r) < 2 ^ 31
few_variables_of r few fits =
    let long : length (rule_variables r) ≤ 0 + suc (size_all (terms_of_rule r)) = variables_length [] (app 0 (terms_of_rule r)) in
    let small : size_all (terms_of_rule r) ≤ 10000 * count (terms_of_rule r) = all_small (terms_of_rule r) fits in
    let many : count (sides r.conditions) ≡ 2 * length r.conditions = count_sides r.conditions in
    omega (arith, long, small, many, few)

pub numbered_over : (ar : Signature) (p : Rule) → IsRuleOver ar p → IsRuleOver ar (numbered p)
numbered_over ar p over =
    record { over = each_rule_under (IsOver ar) (numbering_of p) (λ t o. IsOver-apply ar (numbering_of p) t (λ x. tt) o) p over.over; left = no_variable_under (numbering_of p) p.left over.left }

pub numbered_rule : (ar : Signature) (p : Rule) → IsRuleOver ar p → length p.conditions ≤ 100 → Each Fits (terms_of_rule p) → IsRule ar (numbered p)
numbered_rule ar p over few fits =
    let fits_now : Each Fits (terms_of_rule (numbered p)) = each_rule_under Fits (numbering_of p) (λ t f. fits_under _ (variables_are_leaves _) t f) p fits in
    let few_now : length (numbered p).conditions ≤ 100 = (let e = length-conditions_under (numbering_of p) p.conditions in omega (arith, e, few)) in
    record {
      is_over = numbered_over ar p over;
      numbered = subst (λ ts. CountsFrom 0 (variables_of ts)) (sym (terms_under (numbering_of p) p)) (numbered_counts (terms_of_rule p));
      few_variables = few_variables_of (numbered p) few_now fits_now;
      few_conditions = few_now;
      fits = fits_now;
    }

pub fewer_conditions : (r : Rule) (k : ℕ) (c : Condition) (x : ℕ) → slice_get r.conditions k ≡ Some c → length (numbered (inlined_rule r k c.left x)).conditions + 1 ≡ length r.conditions
fewer_conditions r k c x at =
    let e = length-conditions_under (numbering_of (inlined_rule r k c.left x)) (inlined_rule r k c.left x).conditions in
    let f = length_without (left_under (replacing x c.left)) r.conditions k c at in
    omega (arith, e, f)

-- rules in place of one, with no more conditions
pub system_with : (sys : System) (n : ℕ) (r : Rule) (qs : List Rule) → IsSystem sys → slice_get sys.rules n ≡ Some r → AreRules sys.arities qs → length qs ≤ 1
    → condition_count qs ≤ length r.conditions → IsSystem (with_in_place sys n qs)
system_with sys n r qs h is rules one few =
    let a = length_replaced sys.rules qs n r is in
    let b = count_replaced sys.rules qs n r is in
    let s = h.few_symbols in
    let t = h.few_rules in
    record {
      rules = rules_replaced sys.arities sys.rules qs n r is h.rules rules;
      few_symbols = omega (arith, b, few, s);
      few_rules = omega (arith, a, b, few, one, t);
    }

pub step_makes : (sys next : System) (s : Simplification) → IsSystem sys → Simplifies sys s next → IsSystem next
step_makes sys next (dropped zero e) h g = absurd g
step_makes sys next (dropped (suc n) e) h g = subst IsSystem (sym g.result) (system_with sys n g.rule [] h g.is_rule tt (omega arith) (omega arith))
step_makes sys next (inlined zero k) h g = absurd g
step_makes sys next (inlined (suc n) zero) h g = absurd g
step_makes sys next (inlined (suc n) (suc k)) h g =
    let old = is_rule_at sys.arities sys.rules n g.rule h.rules g.is_rule in
    let p = inlined_rule g.rule k g.condition.left g.name in
    let fewer = fewer_conditions g.rule k g.condition g.name g.is_condition in
    let same = length-conditions_under (numbering_of p) p.conditions in
    let few = old.few_conditions in
    let new = numbered_rule sys.arities p (inlined_over sys.arities g.rule old.is_over k g.condition g.name g.is_condition) (omega (arith, fewer, same, few)) g.fits in
    subst IsSystem (sym g.result) (system_with sys n g.rule (numbered p ∷ []) h g.is_rule (new, tt) (omega arith) (omega (arith, fewer)))

pub steps_make : SimplificationsMakeSystems
steps_make sys last [] h e = subst IsSystem (sym e) h
steps_make sys last (s ∷ ss) h (next, g, gs) = steps_make next last ss (step_makes sys next s h g) gs

pub shrink : SimplificationsShrink
shrink sys next (dropped zero e) g = absurd g
shrink sys next (dropped (suc n) e) g =
    let a = length_replaced sys.rules [] n g.rule g.is_rule in
    let b = count_replaced sys.rules [] n g.rule g.is_rule in
    subst (λ z. parts z < parts sys) (sym g.result) (omega (arith, a, b))
shrink sys next (inlined zero k) g = absurd g
shrink sys next (inlined (suc n) zero) g = absurd g
shrink sys next (inlined (suc n) (suc k)) g =
    let q = numbered (inlined_rule g.rule k g.condition.left g.name) in
    let fewer = fewer_conditions g.rule k g.condition g.name g.is_condition in
    let a = length_replaced sys.rules (q ∷ []) n g.rule g.is_rule in
    let b = count_replaced sys.rules (q ∷ []) n g.rule g.is_rule in
    subst (λ z. parts z < parts sys) (sym g.result) (omega (arith, a, b, fewer))
