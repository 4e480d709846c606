-- Good steps lead from join rules to fewer of them.
use Rattle.std.proofs.Common.{◌≡◌, ℕ, zero, suc, ◌⊎◌, inl, inr, refl, sym, ap, ◌∙◌, subst, List, [], ◌∷◌, ◌++◌, map, length, take, drop, slice_get, Some}
use Rattle.rewriting.specs.Prelude.{IsInfeasible, IsWellFormed}
use Rattle.rewriting.proofs.Common.{var, app, Condition, Rule, System}
use Rattle.rewriting.proofs.Conditions.{no_feasible}
use Rattle.join_systems.specs.Joined.{joined_condition, joined_rule, last_rule, joined, IsJoined}
use Rattle.join_systems.specs.FileRelation.{IsFromFile}
use Rattle.certificates.specs.Certificates.{Simplification, dropped, inlined}
use Rattle.judged_evidence.proofs.Judged.{judged_infeasible}
use Rattle.simplifications.specs.Simplifying.{with_in_place, Simplifies}
use Rattle.simplifications.specs.Laws.{SimplificationsKeepFiles}
use Rattle.simplifications.proofs.Levels.{step_over}

-- where the n-th of the rules with the last one behind stands: among the rules, or it is the last
module _ (f : Rule → Rule) (q : Rule) where
  pub place_among : (rs : List Rule) (n : ℕ) (r : Rule) → slice_get (map f rs ++ q ∷ []) n ≡ Some r
      → (r ≡ q) ⊎ ((p : Rule) × (slice_get rs n ≡ Some p) × (f p ≡ r))
  place_among [] zero r e = inl (cc)
  place_among [] (suc n) r e = absurd (cc)
  place_among (p ∷ rs) zero r e = inr (p, refl, (let same : Some (f p) ≡ Some r = e in cc))
  place_among (p ∷ rs) (suc n) r e = place_among rs n r e

  -- the rules without the one behind the first n
  pub without_moved : (rs : List Rule) (n : ℕ) (p : Rule) → slice_get rs n ≡ Some p
      → take n (map f rs ++ q ∷ []) ++ drop (suc n) (map f rs ++ q ∷ []) ≡ map f (take n rs ++ drop (suc n) rs) ++ q ∷ []
  without_moved [] n p e = absurd (cc)
  without_moved (r ∷ rs) zero p e = refl
  without_moved (r ∷ rs) (suc n) p e = ap (λ z. f r ∷ z) (without_moved rs n p e)

-- no condition of a join rule names a term: its right side is a constant
right_is_true : (own : ℕ) (cs : List Condition) (k : ℕ) (c : Condition) (x : ℕ) → slice_get (map (joined_condition own) cs) k ≡ Some c → c.right ≡ var x → ⊥
right_is_true own [] k c x e v = absurd (cc)
right_is_true own (d ∷ cs) zero c x e v =
    (let same : joined_condition own d ≡ c = cc in let right : app (suc own) _ ≡ var x = ap (λ (z : Condition). z.right) same ∙ v in absurd (cc))
right_is_true own (d ∷ cs) (suc k) c x e v = right_is_true own cs k c x e v

-- what has no conditions is not infeasible
none_feasible : (sys : System) → IsInfeasible sys [] → ⊥
none_feasible sys never = no_feasible sys [] 0 (λ x. var x) (λ x. tt) tt never

module _ (j : System) where
  abbrev own : ℕ
  own = length j.arities

  dropped_is_joined : IsWellFormed j → j.own ≡ length j.arities → (n : ℕ) (r : Rule) → slice_get (joined j).rules n ≡ Some r → IsInfeasible (joined j) r.conditions
      → (k : System) × IsJoined k (with_in_place (joined j) n [])
  dropped_is_joined well all n r is never = go (place_among (joined_rule own) (last_rule own) j.rules n r is)
    where
      go : (r ≡ last_rule own) ⊎ ((p : Rule) × (slice_get j.rules n ≡ Some p) × (joined_rule own p ≡ r)) → (k : System) × IsJoined k (with_in_place (joined j) n [])
      go (inl e) = absurd (none_feasible (joined j) (subst (λ z. IsInfeasible (joined j) z.conditions) e never))
      go (inr (p, at, _)) =
          let moved = without_moved (joined_rule own) (last_rule own) j.rules n p at in (
            with_in_place j n [],
            record {
              well_formed = step_over j n p [] well at (λ q a. absurd a);
              all_own = all;
              is = ap (λ z. record (joined j) { rules = z }) moved;
            },
          )

  never_inlined : (n k : ℕ) (r : Rule) (c : Condition) (x : ℕ) → slice_get (joined j).rules n ≡ Some r → slice_get r.conditions k ≡ Some c → c.right ≡ var x → ⊥
  never_inlined n k r c x is at v = go (place_among (joined_rule own) (last_rule own) j.rules n r is)
    where
      go : (r ≡ last_rule own) ⊎ ((p : Rule) × (slice_get j.rules n ≡ Some p) × (joined_rule own p ≡ r)) → ⊥
      go (inl e) = (let none : slice_get (last_rule own).conditions k ≡ Some c = subst (λ z. slice_get z.conditions k ≡ Some c) e at in absurd (cc))
      go (inr (p, _, e)) = right_is_true own p.conditions k c x (subst (λ z. slice_get z.conditions k ≡ Some c) (sym e) at) v

-- one step
stays_joined : (j sys next : System) (s : Simplification) → IsJoined j sys → Simplifies sys s next → (k : System) × IsJoined k next
stays_joined j sys next (dropped zero e) h g = absurd g
stays_joined j sys next (dropped (suc n) e) h g =
    let never = judged_infeasible sys g.rule.conditions e g.never_met in
    let is = subst (λ z. slice_get z.rules n ≡ Some g.rule) h.is g.is_rule in
    let there = dropped_is_joined j h.well_formed h.all_own n g.rule is (subst (λ z. IsInfeasible z g.rule.conditions) h.is never) in
    (there.0, subst (IsJoined there.0) (sym (g.result ∙ ap (λ z. with_in_place z n []) h.is)) there.1)
stays_joined j sys next (inlined zero k) h g = absurd g
stays_joined j sys next (inlined (suc n) zero) h g = absurd g
stays_joined j sys next (inlined (suc n) (suc k)) h g =
    absurd (never_inlined j n k g.rule g.condition g.name (subst (λ z. slice_get z.rules n ≡ Some g.rule) h.is g.is_rule) g.is_condition g.names.variable)

stays_all_own : (sys next : System) (s : Simplification) → sys.own ≡ length sys.arities → Simplifies sys s next → next.own ≡ length next.arities
stays_all_own sys next (dropped zero e) all g = absurd g
stays_all_own sys next (dropped (suc n) e) all g = subst (λ z. z.own ≡ length z.arities) (sym g.result) all
stays_all_own sys next (inlined zero k) all g = absurd g
stays_all_own sys next (inlined (suc n) zero) all g = absurd g
stays_all_own sys next (inlined (suc n) (suc k)) all g = subst (λ z. z.own ≡ length z.arities) (sym g.result) all

stays_from_file : (sys next : System) (s : Simplification) → IsFromFile sys → Simplifies sys s next → IsFromFile next
stays_from_file sys next s (inl (j, h)) g = inl (stays_joined j sys next s h g)
stays_from_file sys next s (inr all) g = inr (stays_all_own sys next s all g)

pub keep_files : SimplificationsKeepFiles
keep_files sys last [] h e = subst IsFromFile (sym e) h
keep_files sys last (s ∷ ss) h (next, g, gs) = keep_files next last ss (stays_from_file sys next s h g) gs
