-- A good step keeps what is reached at every level.
use Rattle.std.proofs.Common.{◌≡◌, ℕ, zero, suc, ◌⊎◌, inl, inr, refl, sym, ◌∙◌, subst, List, [], ◌∷◌, slice_get, Some}
use Rattle.rewriting.specs.Prelude.{IsInfeasible, IsAmong, IsRuleOver, IsWellFormed}
use Rattle.rewriting.proofs.Common.{Term, Star, done, IsOver, Condition, Rule, System, Meets}
use Rattle.rewriting.proofs.Closures.{Star-trans, Star-one, Star-mono}
use Rattle.rewriting.proofs.Conditions.{no_feasible}
use Rattle.rewriting.proofs.Contexts.{root}
use Rattle.rewriting.proofs.Levels.{IsRuleOf, level, next_level, levels_of_steps, steps_of_levels}
use Rattle.judged_evidence.proofs.Judged.{judged_infeasible}
use Rattle.certificates.specs.Certificates.{Simplification, dropped, inlined}
use Rattle.simplifications.specs.Inlining.{Names, inlined_rule, numbered}
use Rattle.simplifications.specs.Simplifying.{with_in_place, Simplifies}
use Rattle.simplifications.specs.Laws.{AreSameByLevels, SimplificationsKeepLevels}
use Rattle.simplifications.proofs.ByRule.{ByRule, by_its_rule, contracts_by}
use Rattle.simplifications.proofs.Transport.{Carries, carried, values_step}
use Rattle.simplifications.proofs.Rules.{among_of_rule, rule_of_among, replaced_or_kept, kept_or_new, new_there}
use Rattle.simplifications.proofs.Renumbered.{to_numbered, from_numbered}
use Rattle.simplifications.proofs.Systems.{condition_over, inlined_over, numbered_over}
use Rattle.simplifications.proofs.Inlined.{from_inlined, to_inlined}

-- a contraction by a rule of the system is a step
one_step : (sys : System) (n : ℕ) (q : Rule) (u v : Term) → IsRuleOf sys q → ByRule sys.arities (Star (level sys n)) q u v → Star (level sys (suc n)) u v
one_step sys n q u v is b = Star-one (root (contracts_by sys (Star (level sys n)) q u v is b))

module _ (sys : System) (n : ℕ) (r : Rule) (is : slice_get sys.rules n ≡ Some r) where
  -- a rule whose conditions are never met contracts nothing
  module _ (never : IsInfeasible sys r.conditions) where
    pub dropped_to : Carries sys (with_in_place sys n [])
    dropped_to m f u v c = go (replaced_or_kept sys.rules [] n r c.rule is (among_of_rule sys c.rule c.is_rule))
      where
        go : (c.rule ≡ r) ⊎ IsAmong c.rule (with_in_place sys n []).rules → Star (level (with_in_place sys n []) (suc m)) u v
        go (inl e) = absurd (no_feasible sys r.conditions m c.by c.values (subst (λ q. Meets (Star (level sys m)) c.by q.conditions) e c.holds) never)
        go (inr a) = one_step (with_in_place sys n []) m c.rule u v (rule_of_among (with_in_place sys n []) c.rule a)
            (by_its_rule sys (Star (level sys m)) (Star (level (with_in_place sys n []) m)) f u v c)

    pub dropped_from : Carries (with_in_place sys n []) sys
    dropped_from m f u v c = go (kept_or_new sys.rules [] n r c.rule is (among_of_rule (with_in_place sys n []) c.rule c.is_rule))
      where
        go : IsAmong c.rule sys.rules ⊎ IsAmong c.rule [] → Star (level sys (suc m)) u v
        go (inl a) = one_step sys m c.rule u v (rule_of_among sys c.rule a) (by_its_rule (with_in_place sys n []) _ _ f u v c)
        go (inr a) = absurd a

  module _ (k : ℕ) (c : Condition) (x : ℕ) (at : slice_get r.conditions k ≡ Some c) (names : Names r k c x) where
    abbrev new_rule : Rule
    new_rule = numbered (inlined_rule r k c.left x)

    abbrev other : System
    other = with_in_place sys n (new_rule ∷ [])

    pub inlined_from : IsOver sys.arities c.left → Carries other sys
    inlined_from over m f u v h = go (kept_or_new sys.rules (new_rule ∷ []) n r h.rule is (among_of_rule other h.rule h.is_rule))
      where
        by_old : ByRule sys.arities (Star (level sys m)) new_rule u v → Star (level sys (suc m)) u v
        by_old b =
            one_step sys m r u v (suc n, is)
            (from_inlined sys.arities (Star (level sys m)) r k c x at names over (λ a. done) u v (from_numbered sys.arities (Star (level sys m)) (inlined_rule r k c.left x) u v b))

        go : IsAmong h.rule sys.rules ⊎ IsAmong h.rule (new_rule ∷ []) → Star (level sys (suc m)) u v
        go (inl a) = one_step sys m h.rule u v (rule_of_among sys h.rule a) (by_its_rule other _ _ f u v h)
        go (inr (inl e)) = by_old (subst (λ q. ByRule sys.arities (Star (level sys m)) q u v) e (by_its_rule other _ _ f u v h))
        go (inr (inr a)) = absurd a

    pub inlined_to : Carries sys other
    inlined_to m f u v h = go (replaced_or_kept sys.rules (new_rule ∷ []) n r h.rule is (among_of_rule sys h.rule h.is_rule))
      where
        by_new : ByRule sys.arities (Star (level other m)) r u v → Star (level other (suc m)) u v
        by_new b =
            let w = to_inlined sys.arities (Star (level other m)) r k c x at names (λ a. done) (λ p q w g h. Star-trans g h) (values_step other m) u v b in
            Star-trans
            (one_step other m new_rule u w.0 (rule_of_among other new_rule (new_there sys.rules n new_rule)) (to_numbered sys.arities (Star (level other m)) (inlined_rule r k c.left x) u w.0 w.1))
            (Star-mono (next_level other m) w.0 v w.2)

        go : (h.rule ≡ r) ⊎ IsAmong h.rule other.rules → Star (level other (suc m)) u v
        go (inl e) = by_new (subst (λ q. ByRule sys.arities (Star (level other m)) q u v) e (by_its_rule sys _ _ f u v h))
        go (inr a) = one_step other m h.rule u v (rule_of_among other h.rule a) (by_its_rule sys _ _ f u v h)

-- two systems that carry to each other
both_ways : (sys other : System) → other.arities ≡ sys.arities → other.own ≡ sys.own → Carries sys other → Carries other sys → AreSameByLevels sys other
both_ways sys other same same_own there back =
    record {
      arities = same;
      own = same_own;
      levels = λ n u v. (
        (λ p. steps_of_levels other n u v (carried sys other there n u v (levels_of_steps sys n u v p))),
        (λ p. steps_of_levels sys n u v (carried other sys back n u v (levels_of_steps other n u v p))),
      );
    }

pub step_keeps : (sys next : System) (s : Simplification) → IsWellFormed sys → Simplifies sys s next → AreSameByLevels sys next
step_keeps sys next (dropped zero e) well h = absurd h
step_keeps sys next (dropped (suc n) e) well h =
    subst (AreSameByLevels sys) (sym h.result)
    (both_ways sys (with_in_place sys n []) refl refl (dropped_to sys n h.rule h.is_rule (judged_infeasible sys h.rule.conditions e h.never_met))
    (dropped_from sys n h.rule h.is_rule (judged_infeasible sys h.rule.conditions e h.never_met)))
step_keeps sys next (inlined zero k) well h = absurd h
step_keeps sys next (inlined (suc n) zero) well h = absurd h
step_keeps sys next (inlined (suc n) (suc k)) well h =
    subst (AreSameByLevels sys) (sym h.result)
    (both_ways sys _ refl refl (inlined_to sys n h.rule h.is_rule k h.condition h.name h.is_condition h.names)
    (inlined_from sys n h.rule h.is_rule k h.condition h.name h.is_condition h.names (condition_over sys.arities h.rule (well (suc n) h.rule h.is_rule) k h.condition h.name h.is_condition)))

-- rules over the symbols stay rules over them
pub step_over : (sys : System) (n : ℕ) (r : Rule) (qs : List Rule) → IsWellFormed sys → slice_get sys.rules n ≡ Some r → ((q : Rule) → IsAmong q qs → IsRuleOver sys.arities q)
    → IsWellFormed (with_in_place sys n qs)
step_over sys n r qs well is new i q e = go (kept_or_new sys.rules qs n r q is (among_of_rule (with_in_place sys n qs) q (i, e)))
  where
    go : IsAmong q sys.rules ⊎ IsAmong q qs → IsRuleOver sys.arities q
    go (inl a) = let old = rule_of_among sys q a in well old.0 q old.1
    go (inr a) = new q a

only : (ar : List ℕ) (p q : Rule) → IsRuleOver ar p → IsAmong q (p ∷ []) → IsRuleOver ar q
only ar p q h (inl e) = subst (IsRuleOver ar) (sym e) h
only ar p q h (inr a) = absurd a

pub step_well_formed : (sys next : System) (s : Simplification) → IsWellFormed sys → Simplifies sys s next → IsWellFormed next
step_well_formed sys next (dropped zero e) well h = absurd h
step_well_formed sys next (dropped (suc n) e) well h = subst IsWellFormed (sym h.result) (step_over sys n h.rule [] well h.is_rule (λ q a. absurd a))
step_well_formed sys next (inlined zero k) well h = absurd h
step_well_formed sys next (inlined (suc n) zero) well h = absurd h
step_well_formed sys next (inlined (suc n) (suc k)) well h =
    let p = inlined_rule h.rule k h.condition.left h.name in
    let over = numbered_over sys.arities p (inlined_over sys.arities h.rule (well (suc n) h.rule h.is_rule) k h.condition h.name h.is_condition) in
    subst IsWellFormed (sym h.result) (step_over sys n h.rule (numbered p ∷ []) well h.is_rule (λ q a. only sys.arities (numbered p) q over a))

same_here : (sys last : System) → last ≡ sys → AreSameByLevels sys last
same_here sys last e = subst (AreSameByLevels sys) (sym e) (record { arities = refl; own = refl; levels = λ n u v. ((λ p. p), (λ p. p)) })

same_on : (a b c : System) → AreSameByLevels a b → AreSameByLevels b c → AreSameByLevels a c
same_on a b c h k =
    record { arities = k.arities ∙ h.arities; own = k.own ∙ h.own; levels = λ n u v. ((λ p. (k.levels n u v).0 ((h.levels n u v).0 p)), (λ p. (h.levels n u v).1 ((k.levels n u v).1 p))) }

pub keep_levels : SimplificationsKeepLevels
keep_levels sys last [] well e = same_here sys last e
keep_levels sys last (s ∷ ss) well (next, h, hs) = same_on sys next last (step_keeps sys next s well h) (keep_levels next last ss (step_well_formed sys next s well h) hs)
