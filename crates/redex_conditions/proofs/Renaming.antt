-- Conditions whose variables are renamed one to one have the same judgement.
use Rattle.std.proofs.Common.{ℕ, ◌≡◌, inl, inr, List, [], ◌∷◌, Option, None, Some, refl, sym, ap, ◌∙◌, subst, subst₂}
use Rattle.rewriting.specs.Prelude.{Term, Terms, var, app, nil, cons, apply, apply_all, odd, Condition, System, left_sides, right_sides, conditions_under}
use Rattle.unifier_run.specs.Run.{Outcome, unifier, clash, too_large, IsOutcome}
use Rattle.unifier_run.proofs.Renamed.{names, stays, renamed_outcome, runs_with_names, fits_with_names, fits_without_names}
use Rattle.unifier_run.proofs.Woven.{woven, all_woven_evens, all_woven_odds, woven_one_to_one}
use Rattle.caps.specs.Caps.{Cap, Caps, any, all_filled, IsCapOf, AreCapsOf, IsCapLarge, AreCapsLarge}
use Rattle.caps.specs.Evidence.{IsCapOutcome, JudgedByCaps}
use Rattle.automata.proofs.Renamed.{by_automaton_to}
use Rattle.certificates.specs.Prelude.{InfeasibilityEvidence, by_caps, by_automaton, EvidenceReason, tcap_unifies, tcap_large, DoConditionsFit}
use Rattle.judged_evidence.specs.Evidence.{IsInfeasibilityJudged}
use Rattle.judged_evidence.proofs.Judged.{infeasibility_total, evidence_once}
use Rattle.redex_conditions.specs.Judged.{AreJudged}

module _ (rho : ℕ → ℕ) where
  abbrev renamed : Term → Term
  renamed t = apply (names rho) t

  abbrev all_renamed : Terms → Terms
  all_renamed ts = apply_all (names rho) ts

  abbrev pub conditions_renamed : List Condition → List Condition
  conditions_renamed cs = conditions_under (names rho) cs

  fit_to : (cs : List Condition) → DoConditionsFit cs → DoConditionsFit (conditions_renamed cs)
  fit_to [] h = tt
  fit_to (c ∷ cs) (l, r, h) = (fits_with_names rho c.left l, fits_with_names rho c.right r, fit_to cs h)

  fit_from : (cs : List Condition) → DoConditionsFit (conditions_renamed cs) → DoConditionsFit cs
  fit_from [] h = tt
  fit_from (c ∷ cs) (l, r, h) = (fits_without_names rho c.left l, fits_without_names rho c.right r, fit_from cs h)

  -- holes do not tell the variables that they stand for
  module _ (sys : System) where
    mutual
      cap_kept : (t : Term) (c : Cap) → IsCapOf sys any t c → IsCapOf sys any (renamed t) c
      cap_kept (var x) c h = h
      cap_kept (app f ts) c (cs, h, top) = (cs, caps_kept ts cs h, top)

      caps_kept : (ts : Terms) (cs : Caps) → AreCapsOf sys any ts cs → AreCapsOf sys any (all_renamed ts) cs
      caps_kept nil cs h = h
      caps_kept (cons t ts) cs (d, ds, e, h, hs) = (d, ds, e, cap_kept t d h, caps_kept ts ds hs)

    mutual
      large_kept : (t : Term) → IsCapLarge sys any t → IsCapLarge sys any (renamed t)
      large_kept (var x) h = h
      large_kept (app f ts) (inl h) = inl (all_large_kept ts h)
      large_kept (app f ts) (inr (cs, h, first)) = inr (cs, caps_kept ts cs h, first)

      all_large_kept : (ts : Terms) → AreCapsLarge sys any ts → AreCapsLarge sys any (all_renamed ts)
      all_large_kept nil h = h
      all_large_kept (cons t ts) (inl h) = inl (large_kept t h)
      all_large_kept (cons t ts) (inr h) = inr (all_large_kept ts h)

  lefts-renamed : (cs : List Condition) → left_sides (conditions_renamed cs) ≡ all_renamed (left_sides cs)
  lefts-renamed [] = refl
  lefts-renamed (c ∷ cs) = ap (cons (renamed c.left)) (lefts-renamed cs)

  rights-renamed : (cs : List Condition) → right_sides (conditions_renamed cs) ≡ all_renamed (right_sides cs)
  rights-renamed [] = refl
  rights-renamed (c ∷ cs) = ap (cons (renamed c.right)) (rights-renamed cs)

  module _ (one_to_one : (x y : ℕ) → rho x ≡ rho y → x ≡ y) where
    outcome_to : (sys : System) (cs : List Condition) (o : Outcome) → IsCapOutcome sys cs o → IsCapOutcome sys (conditions_renamed cs) (renamed_outcome (woven rho) stays o)
    outcome_to sys cs o h =
        record {
          lefts = h.lefts;
          are = subst (λ ts. AreCapsOf sys any ts h.lefts) (sym (lefts-renamed cs)) (caps_kept sys (left_sides cs) h.lefts h.are);
          outcome =
              subst₂ (λ p q. IsOutcome p q (renamed_outcome (woven rho) stays o)) (all_woven_evens rho (all_filled var 0 h.lefts))
              (all_woven_odds rho (right_sides cs) ∙ ap (apply_all odd) (sym (rights-renamed cs)))
              (runs_with_names (woven rho) (woven_one_to_one rho one_to_one) h.outcome);
        }

    by_caps_to : (sys : System) (cs : List Condition) (o : Option EvidenceReason) → JudgedByCaps sys cs o → JudgedByCaps sys (conditions_renamed cs) o
    by_caps_to sys cs None h = outcome_to sys cs clash h
    by_caps_to sys cs (Some tcap_unifies) (b, h) = (_, outcome_to sys cs (unifier b) h)
    by_caps_to sys cs (Some tcap_large) (inl h) = inl (subst (AreCapsLarge sys any) (sym (lefts-renamed cs)) (all_large_kept sys (left_sides cs) h))
    by_caps_to sys cs (Some tcap_large) (inr h) = inr (outcome_to sys cs too_large h)
    by_caps_to sys cs _ h = absurd h

    -- evidence for conditions is the same for renamed ones
    pub judged_to : (sys : System) (cs : List Condition) (e : InfeasibilityEvidence) (o : Option EvidenceReason) → IsInfeasibilityJudged sys cs e o
        → IsInfeasibilityJudged sys (conditions_renamed cs) e o
    judged_to sys cs by_caps o h = by_caps_to sys cs o h
    judged_to sys cs (by_automaton k a) o h = by_automaton_to rho sys cs k a o h

    pub are_judged_to : (sys : System) (cs : List Condition) (e : InfeasibilityEvidence) (o : Option EvidenceReason) → AreJudged sys cs e o → AreJudged sys (conditions_renamed cs) e o
    are_judged_to sys cs e o (inl (fit, h)) = inl (fit_to cs fit, judged_to sys cs e o h)
    are_judged_to sys cs e o (inr (large, is)) = inr (λ fit. large (fit_from cs fit), is)

    -- and for renamed conditions as for these, which have some judgement, the renamed ones one at most
    judged_from : (sys : System) (cs : List Condition) (e : InfeasibilityEvidence) (o : Option EvidenceReason) → IsInfeasibilityJudged sys (conditions_renamed cs) e o
        → IsInfeasibilityJudged sys cs e o
    judged_from sys cs e o h =
        let some = infeasibility_total sys cs e in
        subst (IsInfeasibilityJudged sys cs e) (evidence_once sys (conditions_renamed cs) e some.0 o (judged_to sys cs e some.0 some.1) h) some.1

    pub are_judged_from : (sys : System) (cs : List Condition) (e : InfeasibilityEvidence) (o : Option EvidenceReason) → AreJudged sys (conditions_renamed cs) e o → AreJudged sys cs e o
    are_judged_from sys cs e o (inl (fit, h)) = inl (fit_from cs fit, judged_from sys cs e o h)
    are_judged_from sys cs e o (inr (large, is)) = inr (λ fit. large (fit_to cs fit), is)
