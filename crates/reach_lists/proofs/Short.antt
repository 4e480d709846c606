-- The derivations of listed terms are short.
use Rattle.std.proofs.Common.{◌≡◌, ℕ, zero, suc, ◌≤◌, ◌<◌, ◌^◌, List, [], ◌∷◌, ◌++◌, flat_map, filter_map, option_to_list, option_map, Option, None, Some, refl, sym, subst, arith}
use Rattle.std.proofs.lemmas.Bool.{leb-true}
use Rattle.rewriting.specs.Prelude.{Term, size, Position, replace, Bindings, apply, values_of, Condition, System, is_covered, match_onto}
use Rattle.certificates.specs.Prelude.{Derivation, no_steps, first_step, Step, by_rule, by_hypothesis, derivations_of, step_count, AreStepsShort, IsStepShort, AreShort, IsShort}
use Rattle.reach_lists.specs.Sites.{Site, rule_site, hypothesis_site, sites}
use Rattle.reach_lists.specs.Solutions.{Reached, then_step, Solution, starts, extended, extensions, solutions}
use Rattle.reach_lists.specs.Lists.{stepped, by_solution, unconditional, at_site, successors, breadth_first, condition_list}
use Rattle.reach_lists.specs.Laws.{EachOf, ListedDerivationsAreShort}
use Rattle.reach_lists.proofs.Each.{each_append, each_to, each_flat_map, each_map, each_filter_map, each_if, each_any}
use Rattle.reach_lists.proofs.Equations.{no_rounds, one_round, no_depth, one_deeper}
use Rattle.reach_lists.proofs.Growing.{each_with_all}

counted : (d : Derivation) (s : Step) → step_count (then_step d s) ≡ suc (step_count d)
counted no_steps s = refl
counted (first_step r d) s = let h = counted d s in omega (arith, h)

steps_short : (d : Derivation) (s : Step) → AreStepsShort d → IsStepShort s → AreStepsShort (then_step d s)
steps_short no_steps s h k = (k, tt)
steps_short (first_step r d) s (h, hs) k = (h, steps_short d s hs k)

all_short : (ds : List Derivation) → EachOf IsShort ds → AreShort (derivations_of ds)
all_short [] h = tt
all_short (d ∷ ds) (h, hs) = (h.few_steps, h.inner, all_short ds hs)

abbrev AreMetShort : Solution → Type 0
AreMetShort s = EachOf IsShort s.by

abbrev AreListsShort : (Term → List Reached) → Type 0
AreListsShort inner = (t : Term) → EachOf (λ r. IsShort r.by) (inner t)

module _ (inner : Term → List Reached) (good : AreListsShort inner) where
  extended_short : (s : Solution) (w : Reached) → AreMetShort s → IsShort w.by → (o : Option Bindings)
      → (y : Solution) → option_map (λ (v : Bindings). record { values = v; by = s.by ++ w.by ∷ [] }) o ≡ Some y → AreMetShort y
  extended_short s w met short None y q = cc
  extended_short s w met short (Some v) y q =
      let same : record { values = v; by = s.by ++ w.by ∷ [] } ≡ y = cc in
      subst AreMetShort same (each_append IsShort s.by (w.by ∷ []) met (short, tt))

  extensions_short : (c : Condition) (s : Solution) → AreMetShort s → EachOf AreMetShort (extensions inner c s)
  extensions_short c s met =
      each_flat_map (λ t. Unit {0}) AreMetShort (λ t. filter_map (extended c s) (inner t))
      (λ t x. each_filter_map (λ r. IsShort r.by) AreMetShort (extended c s)
      (λ w short y q. extended_short s w met short (match_onto s.values c.right w.term) y q) (inner t) (good t))
      (starts c s) (each_any (λ t. Unit {0}) (λ t. tt) (starts c s))

  solutions_short : (cs : List Condition) (ss : List Solution) → EachOf AreMetShort ss → EachOf AreMetShort (solutions inner cs ss)
  solutions_short [] ss h = h
  solutions_short (c ∷ cs) ss h =
      solutions_short cs (flat_map (extensions inner c) ss) (each_flat_map AreMetShort AreMetShort (extensions inner c) (λ s met. extensions_short c s met) ss h)

  -- with at most n steps, and short inside
  abbrev pub IsWithin : ℕ → Reached → Type 0
  IsWithin n r = (step_count r.by ≤ n) × AreStepsShort r.by

  stepped_short : (n : ℕ) (u : Reached) (p : Position) (part : Term) (s : Step) → IsWithin n u → IsStepShort s → EachOf (IsWithin (suc n)) (stepped u p part s)
  stepped_short n u p part s (few, short) step =
      each_map (λ v. Unit {0}) (IsWithin (suc n)) (λ (v : Term). record { term = v; by = then_step u.by s })
      (λ v x. (let h = counted u.by s in omega (arith, few, h), steps_short u.by s short step))
      (option_to_list (replace u.term p part)) (each_any (λ v. Unit {0}) (λ v. tt) (option_to_list (replace u.term p part)))

  site_short : (n : ℕ) (u : Reached) → IsWithin n u → (s : Site) → EachOf (IsWithin (suc n)) (at_site inner u s)
  site_short n u within (rule_site p i r b) =
      each_flat_map AreMetShort (IsWithin (suc n)) (by_solution u p i r)
      (λ s met. each_if (IsWithin (suc n)) (is_covered s.values r.right) (stepped u p (apply (values_of s.values) r.right) (by_rule i p (derivations_of s.by)))
      (λ e. stepped_short n u p (apply (values_of s.values) r.right) (by_rule i p (derivations_of s.by)) within (all_short s.by met)))
      (solutions inner r.conditions (unconditional b ∷ [])) (solutions_short r.conditions (unconditional b ∷ []) (tt, tt))
  site_short n u within (hypothesis_site p k h) = stepped_short n u p h.right (by_hypothesis k p) within tt

  pub successors_short : (sys : System) (hyps : List Condition) (n : ℕ) (u : Reached) → IsWithin n u → EachOf (IsWithin (suc n)) (successors sys hyps inner u)
  successors_short sys hyps n u within =
      each_flat_map (λ s. Unit {0}) (IsWithin (suc n)) (at_site inner u) (λ s x. site_short n u within s) (sites sys hyps u.term)
      (each_any (λ s. Unit {0}) (λ s. tt) (sites sys hyps u.term))

  list_within : (sys : System) (hyps : List Condition) (d : ℕ) (t : Term) → EachOf (IsWithin d) (breadth_first (successors sys hyps inner) d t)
  list_within sys hyps zero t = subst (EachOf (IsWithin 0)) (sym (no_rounds (successors sys hyps inner) t)) ((leb-true 0 0 refl, tt), tt)
  list_within sys hyps (suc d) t =
      let next = successors sys hyps inner in
      let before = list_within sys hyps d t in
      subst (EachOf (IsWithin (suc d))) (sym (one_round next d t))
      (each_with_all (IsWithin (suc d)) (breadth_first next d t) (flat_map next (breadth_first next d t))
      (each_to (IsWithin d) (IsWithin (suc d)) (λ r h. (let few = h.0 in omega (arith, few), h.1)) (breadth_first next d t) before)
      (each_to (IsWithin (suc d)) (λ r. size r.term ≤ 200 → IsWithin (suc d) r) (λ r h small. h) (flat_map next (breadth_first next d t))
      (each_flat_map (IsWithin d) (IsWithin (suc d)) next (λ u h. successors_short sys hyps d u h) (breadth_first next d t) before)))

  pub list_short : (sys : System) (hyps : List Condition) (d : ℕ) (t : Term) → d < 2 ^ 32 → EachOf (λ r. IsShort r.by) (breadth_first (successors sys hyps inner) d t)
  list_short sys hyps d t small =
      each_to (IsWithin d) (λ r. IsShort r.by) (λ r h. record { few_steps = (let few = h.0 in omega (arith, few, small)); inner = h.1 })
      (breadth_first (successors sys hyps inner) d t) (list_within sys hyps d t)

conditions_short : (sys : System) (hyps : List Condition) (c : ℕ) → AreListsShort (condition_list sys hyps c)
conditions_short sys hyps zero t = subst (EachOf (λ r. IsShort r.by)) (sym (no_depth sys hyps t)) tt
conditions_short sys hyps (suc c) t =
    subst (EachOf (λ r. IsShort r.by)) (sym (one_deeper sys hyps c t)) (list_short (condition_list sys hyps c) (conditions_short sys hyps c) sys hyps 5 t (leb-true 6 (2 ^ 32) refl))

pub listed_short : ListedDerivationsAreShort
listed_short sys hyps d c t small = list_short (condition_list sys hyps c) (conditions_short sys hyps c) sys hyps d t small
