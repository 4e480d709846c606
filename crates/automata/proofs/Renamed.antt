-- Conditions whose variables are renamed have the same judgement by an automaton: runs do not look at the names of variables.
use Rattle.std.proofs.Common.{ℕ, ◌≡◌, inl, inr, ◌<◌, ◌^◌, suc, zero, List, [], ◌∷◌, ◌++◌, Option, None, Some, length, slice_get, refl, sym, ap, ◌∙◌, subst}
use Rattle.rewriting.specs.Prelude.{Term, Terms, var, app, nil, cons, apply, apply_all, Condition, System, condition_under, conditions_under, variable_occurrences, variable_occurrences_of}
use Rattle.certificates.specs.Prelude.{Automaton, hypothesis_at, EvidenceReason, auto_wide_right, auto_reaches}
use Rattle.automata.specs.Runs.{Moves, Symbols, Has, Reach, ReachAll, at, ReachBy, ReachAllBy}
use Rattle.automata.specs.Closed.{IsWide, Excludes}
use Rattle.automata.specs.Evidence.{IsAccepted, IsExclusionJudged, IsConditionJudged, not_any, misses, closure_fails, right_side, JudgedByAutomaton}

module _ (rho : ℕ → ℕ) where
  abbrev renamed : Term → Term
  renamed t = apply (λ x. var (rho x)) t

  abbrev all_renamed : Terms → Terms
  all_renamed ts = apply_all (λ x. var (rho x)) ts

  abbrev conditions_renamed : List Condition → List Condition
  conditions_renamed cs = conditions_under (λ x. var (rho x)) cs

  module _ (M : Moves) where
    mutual
      reach_to : (t : Term) (q : ℕ) → Reach M (at (λ x. 0)) t q → Reach M (at (λ x. 0)) (renamed t) q
      reach_to (var x) q h = h
      reach_to (app f ts) q (qs, m, h) = (qs, m, all_reach_to ts qs h)

      all_reach_to : (ts : Terms) (qs : List ℕ) → ReachAll M (at (λ x. 0)) ts qs → ReachAll M (at (λ x. 0)) (all_renamed ts) qs
      all_reach_to nil qs h = h
      all_reach_to (cons t ts) [] h = absurd h
      all_reach_to (cons t ts) (q ∷ qs) h = (reach_to t q h.0, all_reach_to ts qs h.1)

    mutual
      reach_from : (t : Term) (q : ℕ) → Reach M (at (λ x. 0)) (renamed t) q → Reach M (at (λ x. 0)) t q
      reach_from (var x) q h = h
      reach_from (app f ts) q (qs, m, h) = (qs, m, all_reach_from ts qs h)

      all_reach_from : (ts : Terms) (qs : List ℕ) → ReachAll M (at (λ x. 0)) (all_renamed ts) qs → ReachAll M (at (λ x. 0)) ts qs
      all_reach_from nil qs h = h
      all_reach_from (cons t ts) [] h = absurd h
      all_reach_from (cons t ts) (q ∷ qs) h = (reach_from t q h.0, all_reach_from ts qs h.1)

    mutual
      by_to : (t : Term) (cs : List ℕ) (q : ℕ) → ReachBy M t cs q → ReachBy M (renamed t) cs q
      by_to (var x) cs q h = h
      by_to (app f ts) cs q (qs, m, h) = (qs, m, all_by_to ts cs qs h)

      all_by_to : (ts : Terms) (cs qs : List ℕ) → ReachAllBy M ts cs qs → ReachAllBy M (all_renamed ts) cs qs
      all_by_to nil cs qs h = h
      all_by_to (cons t ts) cs [] h = absurd h
      all_by_to (cons t ts) cs (q ∷ qs) (before, after, e, h, hs) = (before, after, e, by_to t before q h, all_by_to ts after qs hs)

    mutual
      by_from : (t : Term) (cs : List ℕ) (q : ℕ) → ReachBy M (renamed t) cs q → ReachBy M t cs q
      by_from (var x) cs q h = h
      by_from (app f ts) cs q (qs, m, h) = (qs, m, all_by_from ts cs qs h)

      all_by_from : (ts : Terms) (cs qs : List ℕ) → ReachAllBy M (all_renamed ts) cs qs → ReachAllBy M ts cs qs
      all_by_from nil cs qs h = h
      all_by_from (cons t ts) cs [] h = absurd h
      all_by_from (cons t ts) cs (q ∷ qs) (before, after, e, h, hs) = (before, after, e, by_from t before q h, all_by_from ts after qs hs)

  same_lengths : (xs xs' ys ys' : List ℕ) → length xs ≡ length xs' → length ys ≡ length ys' → length (xs ++ ys) ≡ length (xs' ++ ys')
  same_lengths [] [] ys ys' e f = f
  same_lengths [] (x ∷ xs') ys ys' e f = cc
  same_lengths (x ∷ xs) [] ys ys' e f = cc
  same_lengths (x ∷ xs) (y ∷ xs') ys ys' e f = (let shorter : length xs ≡ length xs' = cc in ap suc (same_lengths xs xs' ys ys' shorter f))

  mutual
    occurrences_same : (t : Term) → length (variable_occurrences (renamed t)) ≡ length (variable_occurrences t)
    occurrences_same (var x) = refl
    occurrences_same (app f ts) = all_occurrences_same ts

    all_occurrences_same : (ts : Terms) → length (variable_occurrences_of (all_renamed ts)) ≡ length (variable_occurrences_of ts)
    all_occurrences_same nil = refl
    all_occurrences_same (cons t ts) =
        same_lengths (variable_occurrences (renamed t)) (variable_occurrences t) (variable_occurrences_of (all_renamed ts)) (variable_occurrences_of ts) (occurrences_same t) (all_occurrences_same ts)

  module _ (symbols : Symbols) (a : Automaton) (t : Term) where
    accepted_to : IsAccepted symbols a t → IsAccepted symbols a (renamed t)
    accepted_to (q, accepts, h) = (q, accepts, (h.0, reach_to (Has symbols a) t q h.1))

    accepted_from : IsAccepted symbols a (renamed t) → IsAccepted symbols a t
    accepted_from (q, accepts, h) = (q, accepts, (h.0, reach_from (Has symbols a) t q h.1))

    wide_to : IsWide a t → IsWide a (renamed t)
    wide_to h = subst (λ n. 1000000 < a.states ^ n) (sym (occurrences_same t)) h

    wide_from : IsWide a (renamed t) → IsWide a t
    wide_from h = subst (λ n. 1000000 < a.states ^ n) (occurrences_same t) h

    excludes_to : Excludes symbols a t → Excludes symbols a (renamed t)
    excludes_to none cs q choice accepts h =
        none cs q (record { each = choice.each ∙ occurrences_same t; states = choice.states }) accepts (by_from (Has symbols a) t cs q h)

    excludes_from : Excludes symbols a (renamed t) → Excludes symbols a t
    excludes_from none cs q choice accepts h =
        none cs q (record { each = choice.each ∙ sym (occurrences_same t); states = choice.states }) accepts (by_to (Has symbols a) t cs q h)

    exclusion_to : (o : Option EvidenceReason) → IsExclusionJudged symbols a t o → IsExclusionJudged symbols a (renamed t) o
    exclusion_to None (narrow, none) = (λ w. narrow (wide_from w), excludes_to none)
    exclusion_to (Some auto_wide_right) h = wide_to h
    exclusion_to (Some auto_reaches) (narrow, some) = (λ w. narrow (wide_from w), λ none. some (excludes_from none))
    exclusion_to (Some _) h = absurd h

  condition_to : (sys : System) (c : Condition) (a : Automaton) (o : Option EvidenceReason) → IsConditionJudged sys c a o → IsConditionJudged sys (condition_under (λ x. var (rho x)) c) a o
  condition_to sys c a o (not_any h) = not_any h
  condition_to sys c a o (misses any h) = misses any (λ hit. h (accepted_from (Some sys.arities) a c.left hit))
  condition_to sys c a o (closure_fails why any hit h) = closure_fails why any (accepted_to (Some sys.arities) a c.left hit) h
  condition_to sys c a o (right_side p any hit closed h) = right_side p any (accepted_to (Some sys.arities) a c.left hit) closed (exclusion_to (Some sys.arities) a c.right p h)

  slice_none : (cs : List Condition) (k : ℕ) → slice_get cs k ≡ None → slice_get (conditions_renamed cs) k ≡ None
  slice_none [] k h = h
  slice_none (c ∷ cs) zero h = cc
  slice_none (c ∷ cs) (suc k) h = slice_none cs k h

  slice_some : (cs : List Condition) (k : ℕ) (c : Condition) → slice_get cs k ≡ Some c → slice_get (conditions_renamed cs) k ≡ Some (condition_under (λ x. var (rho x)) c)
  slice_some [] k c h = cc
  slice_some (d ∷ cs) zero c h = ap (λ x. Some (condition_under (λ y. var (rho y)) x)) cc
  slice_some (d ∷ cs) (suc k) c h = slice_some cs k c h

  hypothesis_none : (cs : List Condition) (k : ℕ) → hypothesis_at cs k ≡ None → hypothesis_at (conditions_renamed cs) k ≡ None
  hypothesis_none cs zero h = h
  hypothesis_none cs (suc k) h = slice_none cs k h

  hypothesis_some : (cs : List Condition) (k : ℕ) (c : Condition) → hypothesis_at cs k ≡ Some c → hypothesis_at (conditions_renamed cs) k ≡ Some (condition_under (λ x. var (rho x)) c)
  hypothesis_some cs zero c h = cc
  hypothesis_some cs (suc k) c h = slice_some cs k c h

  pub by_automaton_to : (sys : System) (cs : List Condition) (k : ℕ) (a : Automaton) (o : Option EvidenceReason) → JudgedByAutomaton sys cs k a o → JudgedByAutomaton sys (conditions_renamed cs) k a o
  by_automaton_to sys cs k a o (inl (none, is)) = inl (hypothesis_none cs k none, is)
  by_automaton_to sys cs k a o (inr (c, is, h)) = inr (condition_under (λ x. var (rho x)) c, hypothesis_some cs k c is, condition_to sys c a o h)
