-- Lists without steps: where each rule has conditions and there is no hypothesis, the lists at depth 0 are their starts.
use Rattle.std.proofs.Common.{◌≡◌, ℕ, zero, suc, List, [], ◌∷◌, ◌++◌, length, map, flat_map, option_to_list, refl, sym, ap, ap₂, ◌∙◌, subst, arith}
use Rattle.std.specs.FinMap.{empty}
use Rattle.rewriting.specs.Terms as math
use Rattle.rewriting.specs.Prelude.{Position, positions, subterm, Condition, Rule, System, match_onto}
use Rattle.reach_lists.specs.Laws.{EachOf}
use Rattle.reach_lists.specs.Sites.{Site, rule_site, rule_sites, hypothesis_sites, sites_of_part, sites_at, sites}
use Rattle.reach_lists.specs.Solutions as lists
use Rattle.reach_lists.specs.Lists.{total, with_terms, started, breadth_first, expanded, successors, asked_from, condition_list, condition_cost, reach_list, reach_cost, at_site}
use Rattle.reach_lists.proofs.Each.{each_append, each_map, each_any, each_flat_map}
use Rattle.reach_lists.proofs.Equations.{no_rounds, one_round, no_cost}
use Rattle.reach.specs.Ready.{HasConditions, IsIdle}
use Rattle.reach.proofs.Following.{idle_terms}
use Rattle.reach.proofs.Searching.{no_prices}

pub none_of_each : {A B : Type 0} (f : A → List B) (xs : List A) → EachOf (λ x. f x ≡ []) xs → flat_map f xs ≡ []
none_of_each f [] h = refl
none_of_each f (x ∷ xs) (e, h) = ap₂ (λ a b. a ++ b) e (none_of_each f xs h)

total_none : {A : Type 0} (f : A → ℕ) → ((x : A) → f x ≡ 0) → (xs : List A) → total f xs ≡ 0
total_none f none [] = refl
total_none f none (x ∷ xs) = let h = none x in let k = total_none f none xs in omega (arith, h, k)

module _ (sys : System) (hyps : List Condition) (idle : IsIdle sys hyps) where
  abbrev inner : math.Term → List lists.Reached
  inner = condition_list sys hyps 0

  module _ (u : lists.Reached) where
    abbrev IsStill : Site → Type 0
    IsStill s = at_site inner u s ≡ []

    rules_still : (p : Position) (part : math.Term) (i : ℕ) (rs : List Rule) → EachOf HasConditions rs → EachOf IsStill (rule_sites p part i rs)
    rules_still p part i [] h = tt
    rules_still p part i (r ∷ rs) (some, h) =
        each_append IsStill (map (rule_site p i r) (option_to_list (match_onto empty r.left part))) (rule_sites p part (suc i) rs)
        (each_map (λ b. Unit {0}) IsStill (rule_site p i r) (λ b x. idle_terms sys hyps 0 u p i r refl r.conditions refl some b) (option_to_list (match_onto empty r.left part))
        (each_any (λ b. Unit {0}) (λ b. tt) (option_to_list (match_onto empty r.left part))))
        (rules_still p part (suc i) rs h)

    part_still : (p : Position) (part : math.Term) → EachOf IsStill (sites_of_part sys hyps p part)
    part_still p part =
        each_append IsStill (rule_sites p part 1 sys.rules) (hypothesis_sites p part 1 hyps) (rules_still p part 1 sys.rules idle.rules)
        (subst (λ hs. EachOf IsStill (hypothesis_sites p part 1 hs)) (sym idle.hypotheses) tt)

    sites_still : EachOf IsStill (sites sys hyps u.term)
    sites_still =
        each_flat_map (λ p. Unit {0}) IsStill (sites_at sys hyps u.term)
        (λ p x. each_flat_map (λ t. Unit {0}) IsStill (sites_of_part sys hyps p) (λ t y. part_still p t) (option_to_list (subterm u.term p))
        (each_any (λ t. Unit {0}) (λ t. tt) (option_to_list (subterm u.term p))))
        (positions u.term) (each_any (λ p. Unit {0}) (λ p. tt) (positions u.term))

    no_successors : successors sys hyps inner u ≡ []
    no_successors = none_of_each (at_site inner u) (sites sys hyps u.term) sites_still

  stays : (d : ℕ) (t : math.Term) → breadth_first (successors sys hyps inner) d t ≡ started t
  stays zero t = no_rounds (successors sys hyps inner) t
  stays (suc d) t =
      one_round (successors sys hyps inner) d t
      ∙ ap (with_terms (breadth_first (successors sys hyps inner) d t)) (none_of_each (successors sys hyps inner) (breadth_first (successors sys hyps inner) d t)
      (each_any (λ u. successors sys hyps inner u ≡ []) no_successors (breadth_first (successors sys hyps inner) d t)))
      ∙ stays d t

  pub idle_list : (d depth : ℕ) (t : math.Term) → depth ≡ 0 → started t ≡ reach_list sys hyps d depth t
  idle_list d depth t e = sym (ap (λ c. reach_list sys hyps d c t) e ∙ stays d t)

  pub idle_cost : (d depth : ℕ) (t : math.Term) → depth ≡ 0 → reach_cost sys hyps d depth t ≡ 1
  idle_cost d depth t e =
      let price = condition_cost sys hyps 0 in
      let many = ap length (stays d t) in
      let free = total_none (λ (u : lists.Reached). total price (asked_from sys hyps inner u.term)) (λ u. no_prices price (no_cost sys hyps) (asked_from sys hyps inner u.term))
      (expanded (successors sys hyps inner) d t) in
      ap (λ c. reach_cost sys hyps d c t) e ∙ omega (arith, many, free)
