-- Steps of a term ask for no list where no rule with the root of a part has conditions.
use Rattle.std.proofs.Common.{◌≡◌, ℕ, zero, suc, ◌≤◌, true, nat_eq, eqb-true, vec_len, List, [], ◌∷◌, if◌then◌else◌, length, map, option_to_list, Option, None, Some}
use Rattle.std.proofs.Common.{option_and_then, Vec, Global, refl, sym, ap, ◌∙◌, subst, arith}
use Rattle.std.specs.FinMap.{empty}
use Rattle.rewriting.specs.Terms as math
use Rattle.rewriting.specs.Prelude.{Terms, var, app, nil, cons, Position, positions, subterm, argument, argument_of, Condition, Rule, System, rule_at, IsSystem, match_onto, is_same}
use Rattle.cc_count.specs.Counts.{Counts}
use Rattle.cc_count.proofs.Spending.{spends_same}
use Rattle.rule_index.specs.Roots.{rules_at}
use Rattle.reach_lists.specs.Laws.{EachOf}
use Rattle.reach_lists.specs.Sites.{Site, rule_site, hypothesis_site, rule_sites, hypothesis_sites, sites_of_part, sites_at, sites}
use Rattle.reach_lists.specs.Solutions as lists
use Rattle.reach_lists.specs.Lists.{total, condition_list, condition_cost, successors, asked_from, asked_at, unconditional}
use Rattle.reach_lists.proofs.Each.{each_append, each_map, each_any, each_flat_map, each_of_option, each_if}
use Rattle.term_core.specs.Prelude.{rule_view, condition_view, view, views}
use Rattle.term_core.specs.declared.systems.Cond.{Cond}
use Rattle.term_core.specs.declared.systems.Rule as program
use Rattle.term_core.specs.declared.terms.Term.{Term}
use Rattle.term_core.specs.declared.terms.Term.TheVariants.{Fun}
use Rattle.term_core.proofs.Views.{view-Fun}
use Rattle.reach.specs.Offers.{TakesNone}
use Rattle.reach.specs.Quiet.{IsWithoutConditions, IsBare, IsQuiet, AreQuiet}
use Rattle.reach.specs.Walks.{maybe_rule}
use Rattle.reach.proofs.Idle.{none_of_each}
use Rattle.reach.proofs.Offered.{nothing_when_full}
use Rattle.reach.proofs.Following.{zero_price}
use Rattle.reach.proofs.Walks.{rules_found}

-- a rule without conditions
nothing_in : (cs : List Cond) → length cs ≡ 0 → map condition_view cs ≡ []
nothing_in [] e = refl
nothing_in (c ∷ cs) e = absurd (omega (arith, e))

pub no_conditions : (r : program.Rule) → nat_eq (vec_len r.conds) 0 ≡ true → (rule_view r).conditions ≡ []
no_conditions r e = nothing_in r.conds.items (sym r.conds.ok.0 ∙ eqb-true (vec_len r.conds) 0 e)

-- a symbol with its arguments
pub quiet_from : (sys : System) (t : Term) (f : ℕ) (v : Vec Term Global) → t ≡ Fun f v → IsBare sys (view t) → AreQuiet sys (views v.items) → IsQuiet sys (view t)
quiet_from sys t f v is bare all =
    let whole = ap view is ∙ view-Fun f v in
    subst (IsQuiet sys) (sym whole) (subst (IsBare sys) whole bare, all)

module _ (sys : System) where
  quiet_whole : (t : math.Term) → IsQuiet sys t → IsBare sys t
  quiet_whole (var x) h = h
  quiet_whole (app f ts) h = h.0

  quiet_argument : (ts : Terms) (k : ℕ) (u : math.Term) → AreQuiet sys ts → argument ts k ≡ Some u → IsQuiet sys u
  quiet_argument nil k u h e = cc
  quiet_argument (cons t ts) zero u h e = cc
  quiet_argument (cons t ts) (suc zero) u (h, hs) e = (let same : t ≡ u = cc in subst (IsQuiet sys) same h)
  quiet_argument (cons t ts) (suc (suc k)) u (h, hs) e = quiet_argument ts (suc k) u hs e

  quiet_below : (t : math.Term) (k : ℕ) (u : math.Term) → IsQuiet sys t → argument_of t k ≡ Some u → IsQuiet sys u
  quiet_below (var x) k u h e = cc
  quiet_below (app f ts) k u h e = quiet_argument ts k u h.1 e

  quiet_part : (t : math.Term) (p : Position) (u : math.Term) → IsQuiet sys t → subterm t p ≡ Some u → IsQuiet sys u
  quiet_part t [] u h e = (let same : t ≡ u = cc in subst (IsQuiet sys) same h)
  quiet_part t (k ∷ p) u h e = go (argument_of t k) (λ s d. quiet_part s p u (quiet_below t k s h d)) e
    where
      go : (o : Option math.Term) → ((s : math.Term) → o ≡ Some s → subterm s p ≡ Some u → IsQuiet sys u) → option_and_then (λ s. subterm s p) o ≡ Some u → IsQuiet sys u
      go None f d = cc
      go (Some s) f d = f s refl d

  module _ (hyps : List Condition) (inner : math.Term → List lists.Reached) (is_system : IsSystem sys) where
    abbrev AsksNone : Site → Type 0
    AsksNone s = asked_at inner s ≡ []

    rule_asks : (p : Position) (u : math.Term) (i : ℕ) (o : Option Rule) → IsWithoutConditions o → EachOf AsksNone (maybe_rule p u i o)
    rule_asks p u i None h = tt
    rule_asks p u i (Some r) h =
        each_map (λ b. Unit {0}) AsksNone (rule_site p i r) (λ b x. ap (λ cs. lists.asked inner cs (unconditional b ∷ [])) h) (option_to_list (match_onto empty r.left u))
        (each_any (λ b. Unit {0}) (λ b. tt) (option_to_list (match_onto empty r.left u)))

    hypotheses_ask : (p : Position) (u : math.Term) (k : ℕ) (hs : List Condition) → EachOf AsksNone (hypothesis_sites p u k hs)
    hypotheses_ask p u k [] = tt
    hypotheses_ask p u k (h ∷ hs) =
        each_append AsksNone (if is_same h.left u then hypothesis_site p k h ∷ [] else []) (hypothesis_sites p u (suc k) hs)
        (each_if AsksNone (is_same h.left u) (hypothesis_site p k h ∷ []) (λ e. (refl, tt))) (hypotheses_ask p u (suc k) hs)

    part_asks : (p : Position) (u : math.Term) → IsBare sys u → EachOf AsksNone (sites_of_part sys hyps p u)
    part_asks p u bare =
        each_append AsksNone (rule_sites p u 1 sys.rules) (hypothesis_sites p u 1 hyps)
        (subst (EachOf AsksNone) (rules_found sys p u is_system)
        (each_flat_map (λ i. IsWithoutConditions (rule_at sys i)) AsksNone (λ i. maybe_rule p u i (rule_at sys i)) (λ i h. rule_asks p u i (rule_at sys i) h) (rules_at sys u) bare))
        (hypotheses_ask p u 1 hyps)

    pub quiet_asks : (t : math.Term) → IsQuiet sys t → asked_from sys hyps inner t ≡ []
    quiet_asks t h =
        none_of_each (asked_at inner) (sites sys hyps t)
        (each_flat_map (λ p. Unit {0}) AsksNone (sites_at sys hyps t)
        (λ p x. each_flat_map (IsBare sys) AsksNone (sites_of_part sys hyps p) (λ u b. part_asks p u b) (option_to_list (subterm t p))
        (each_of_option (IsBare sys) (subterm t p) (λ u e. quiet_whole u (quiet_part t p u h e))))
        (positions t) (each_any (λ p. Unit {0}) (λ p. tt) (positions t)))

-- a full list takes nothing of a term, and where its steps ask for no list, or none is made, nothing is paid
module _ (sys : System) (hyps : List Condition) (depth : ℕ) where
  abbrev price : math.Term → ℕ
  price = condition_cost sys hyps depth

  abbrev asked : math.Term → List math.Term
  asked t = asked_from sys hyps (condition_list sys hyps depth) t

  pub quiet_free : (t : math.Term) → IsSystem sys → IsQuiet sys t → total price (asked t) ≡ 0
  quiet_free t s h = ap (total price) (quiet_asks sys hyps (condition_list sys hyps depth) s t h)

  pub shallow_free : (t : math.Term) → depth ≡ 0 → total price (asked t) ≡ 0
  shallow_free t e = zero_price sys hyps depth (asked t) e

  pub over_offered : (u : lists.Reached) (l : List lists.Reached) (a : Counts) → 2000 ≤ length l → total price (asked u.term) ≡ 0
      → TakesNone l (successors sys hyps (condition_list sys hyps depth) u) (total price (asked u.term)) a
  over_offered u l a full free =
      let h = nothing_when_full l (successors sys hyps (condition_list sys hyps depth) u) a full in
      (h.0, spends_same a a _ _ (omega (arith, free)) h.1)
