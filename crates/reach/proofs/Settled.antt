-- Terms that meet a last condition and lead to the same term, which a list does not take.
use Rattle.std.proofs.Common.{◌≡◌, ℕ, true, List, [], ◌∷◌, ◌++◌, flat_map, option_to_list, option_map, Option, None, Some, is_some, refl, sym, ap, ◌∙◌, subst}
use Rattle.std.proofs.lemmas.Bool.{false≢true}
use Rattle.std.specs.FinMap.{get}
use Rattle.rewriting.specs.Terms as math
use Rattle.rewriting.specs.Prelude.{Position, Covers, Extends, Bindings, apply, values_of, Condition, Rule, is_covered, match_onto}
use Rattle.rewriting.proofs.Instances.{apply-agree}
use Rattle.rewriting.proofs.MatchedOnto.{found_least}
use Rattle.reach_lists.specs.Laws.{EachOf, IsSettled}
use Rattle.reach_lists.specs.Lists.{by_solution}
use Rattle.reach_lists.specs.Solutions as lists
use Rattle.reach_lists.specs.Solutions.{extended}
use Rattle.reach_lists.proofs.Each.{each_append, each_flat_map, each_any, each_if}
use Rattle.reach_lists.specs.Paths.{followed, asked_on_paths}
use Rattle.reach.specs.Splices.{GivesNothing}
use Rattle.reach.proofs.Idle.{none_of_each}
use Rattle.reach.proofs.Instances.{value_is}
use Rattle.reach.proofs.Offered.{untaken_settled}

module _ (inner : math.Term → List lists.Reached) (l : List lists.Reached) (u : lists.Reached) (p : Position) (i : ℕ) (r : Rule) (c : Condition) (s : lists.Solution) where
  abbrev given : lists.Solution → List lists.Reached
  given = by_solution u p i r

  module _ (covered : Covers s.values r.right) (nothing : GivesNothing l u.term p (apply (values_of s.values) r.right)) where
    -- a value that is there stays
    value_stays : (v : Bindings) → Extends s.values v → (x : ℕ) (o : Option math.Term) → get s.values x ≡ o → is_some o ≡ true → values_of s.values x ≡ values_of v x
    value_stays v e x None is some = absurd (false≢true some)
    value_stays v e x (Some t) is some = value_is s.values x t is ∙ sym (value_is v x t (e x t is))

    same_instance : (v : Bindings) → Extends s.values v → apply (values_of s.values) r.right ≡ apply (values_of v) r.right
    same_instance v e = apply-agree (values_of s.values) (values_of v) r.right (λ x o. value_stays v e x (get s.values x) refl (covered x o))

    given_settled : (t : lists.Solution) → Extends s.values t.values → EachOf (IsSettled l) (given t)
    given_settled t e =
        each_if (IsSettled l) (is_covered t.values r.right) _
        (λ _. untaken_settled l u p _ _ (subst (GivesNothing l u.term p) (same_instance t.values e) nothing))

    abbrev given_by : Option lists.Solution → List lists.Reached
    given_by o = flat_map given (flat_map (followed inner []) (option_to_list o))

    entry_settled : (w : lists.Reached) → EachOf (IsSettled l) (given_by (extended c s w))
    entry_settled w = go (match_onto s.values c.right w.term) refl
      where
        go : (o : Option Bindings) → match_onto s.values c.right w.term ≡ o → EachOf (IsSettled l) (given_by (option_map (λ (v : Bindings). record { values = v; by = s.by ++ w.by ∷ [] }) o))
        go None e = tt
        go (Some v) e = each_append (IsSettled l) (given record { values = v; by = s.by ++ w.by ∷ [] }) []
            (given_settled record { values = v; by = s.by ++ w.by ∷ [] } (found_least s.values v c.right w.term e).extends) tt

    pub entries_settled : (cs : List Condition) (ws : List lists.Reached) → cs ≡ []
        → EachOf (IsSettled l) (flat_map (λ w. flat_map given (flat_map (followed inner cs) (option_to_list (extended c s w)))) ws)
    entries_settled cs ws none =
        subst (λ z. EachOf (IsSettled l) (flat_map (λ w. flat_map given (flat_map (followed inner z) (option_to_list (extended c s w)))) ws)) (sym none)
        (each_flat_map (λ w. Unit {0}) (IsSettled l) (λ w. given_by (extended c s w)) (λ w x. entry_settled w) ws (each_any (λ w. Unit {0}) (λ w. tt) ws))

  -- behind the last condition no list is asked for
  last_asks : (o : Option lists.Solution) → flat_map (asked_on_paths inner []) (option_to_list o) ≡ []
  last_asks None = refl
  last_asks (Some t) = refl

  pub entries_ask : (cs : List Condition) (ws : List lists.Reached) → cs ≡ [] → flat_map (λ w. flat_map (asked_on_paths inner cs) (option_to_list (extended c s w))) ws ≡ []
  entries_ask cs ws none =
      ap (λ z. flat_map (λ w. flat_map (asked_on_paths inner z) (option_to_list (extended c s w))) ws) none
      ∙ none_of_each (λ w. flat_map (asked_on_paths inner []) (option_to_list (extended c s w))) ws
      (each_any (λ w. flat_map (asked_on_paths inner []) (option_to_list (extended c s w)) ≡ []) (λ w. last_asks (extended c s w)) ws)
