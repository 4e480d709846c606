-- A peak is valid, or rejected for one reason.
use Rattle.std.proofs.Common.{refl, ◌≡◌, ◌≢◌, inl, inr, ℕ, suc, List, [], ◌∷◌, Option, Some, None, sym, ap, ap₂, ◌∙◌, subst, subst₂}
use Rattle.rewriting.proofs.Common.{Term, Condition, Rule, System, Bindings}
use Rattle.rewriting.specs.Overlaps.{conditions_under}
use Rattle.unifier_run.specs.Run.{Binding, Outcome, unifier, clash, too_large}
use Rattle.caps.specs.Caps.{kept}
use Rattle.caps.proofs.Unique.{one_outcome}
use Rattle.caps.specs.Evidence.{IsRigidOutcome, AreRigidCapsLarge}
use Rattle.certificates.specs.Prelude.{Apartness, Peak, Redex, by_normal_forms, by_rigid_caps, InfeasibilityEvidence, Derives, IsFirstBad, DoConditionsFit, EvidenceReason, BadStep}
use Rattle.certificates.specs.Prelude.{StepReason, Rejection, first_bad, second_bad, redex_fails}
use Rattle.certificates.proofs.Unique.{matches_unique, derives_unique}
use Rattle.certificates.proofs.Outcomes.{never_both as ends_or_fails, fails_unique}
use Rattle.judged_evidence.specs.Evidence.{IsInfeasibilityJudged}
use Rattle.judged_evidence.proofs.Judged.{evidence_once}
use Rattle.valid_certificates.specs.Peaks.{RedexPlace, chosen, at_redex, AreConditionsAt, IsRedexJudged, AreRefuted, AreNotRefuted, AreShownApart, AreNotShownApart, LeadsTo}
use Rattle.valid_certificates.specs.Peaks.{AreValidEnds, AreNoValidEnds, IsValidPeak, IsPeakRejected, foreign_start, first_fails, second_fails, not_apart}
use Rattle.valid_certificates.specs.Laws.{IsOneAnswer}
use Rattle.valid_certificates.proofs.OneList.{redexes_once}

-- the conditions at a redex are determined
pub conditions_once : (sys : System) (t : Term) (r : RedexPlace) (cs ds : List Condition) → AreConditionsAt sys t r cs → AreConditionsAt sys t r ds → cs ≡ ds
conditions_once sys t r cs ds a b =
    let same = matches_unique sys t r.rule r.position a.rule b.rule a.match b.match a.matches b.matches in
    a.are ∙ ap₂ (λ (q : Rule) (m : Bindings). conditions_under (at_redex m) q.conditions) same.same_rule same.same_match ∙ sym b.are

redex_once : (sys : System) (t : Term) (r : RedexPlace) (e : InfeasibilityEvidence) (o p : Option EvidenceReason) → IsRedexJudged sys t r e o → IsRedexJudged sys t r e p → o ≡ p
redex_once sys t r e o p (cs, at, inl (fit, h)) (ds, there, inl (_, k)) =
    evidence_once sys ds e o p (subst (λ x. IsInfeasibilityJudged sys x e o) (conditions_once sys t r cs ds at there) h) k
redex_once sys t r e o p (cs, at, inl (fit, h)) (ds, there, inr (large, k)) = absurd (large (subst DoConditionsFit (conditions_once sys t r cs ds at there) fit))
redex_once sys t r e o p (cs, at, inr (large, h)) (ds, there, inl (fit, k)) = absurd (large (subst DoConditionsFit (conditions_once sys t r ds cs there at) fit))
redex_once sys t r e o p (cs, at, inr (large, h)) (ds, there, inr (_, k)) = h ∙ sym k

-- valid evidence has no reason
redex_never_both : (sys : System) (t : Term) (r : RedexPlace) (e : InfeasibilityEvidence) (why : EvidenceReason) → IsRedexJudged sys t r e None → IsRedexJudged sys t r e (Some why) → ⊥
redex_never_both sys t r e why a b = (let same = redex_once sys t r e None (Some why) a b in cc)

redex_reason : (sys : System) (t : Term) (r : RedexPlace) (e : InfeasibilityEvidence) (why other : EvidenceReason) → IsRedexJudged sys t r e (Some why)
    → IsRedexJudged sys t r e (Some other) → why ≡ other
redex_reason sys t r e why other a b = (let same = redex_once sys t r e (Some why) (Some other) a b in cc)

module _ (sys : System) (u v : Term) where
  refuted_or_not : (n : ℕ) (rs : List RedexPlace) (es : List Redex) (reason : Rejection) → AreRefuted sys u v rs es → AreNotRefuted sys u v n rs es reason → ⊥
  refuted_or_not n [] [] reason a b = b
  refuted_or_not n [] (e ∷ es) reason a b = a
  refuted_or_not n (r ∷ rs) [] reason a b = a
  refuted_or_not n (r ∷ rs) (e ∷ es) reason a (inl b) = b.0 a.0
  refuted_or_not n (r ∷ rs) (e ∷ es) reason a (inr (inl (_, (why, h, _)))) = redex_never_both sys (chosen u v r.which) r e.evidence why a.1 h
  refuted_or_not n (r ∷ rs) (e ∷ es) reason a (inr (inr (_, _, b))) = refuted_or_not (suc n) rs es reason a.2 b

  not_refuted_once : (n : ℕ) (rs : List RedexPlace) (es : List Redex) (x y : Rejection) → AreNotRefuted sys u v n rs es x → AreNotRefuted sys u v n rs es y → x ≡ y
  not_refuted_once n [] [] x y a b = absurd a
  not_refuted_once n [] (e ∷ es) x y a b = a ∙ sym b
  not_refuted_once n (r ∷ rs) [] x y a b = a ∙ sym b
  not_refuted_once n (r ∷ rs) (e ∷ es) x y (inl a) (inl b) = a.1 ∙ sym b.1
  not_refuted_once n (r ∷ rs) (e ∷ es) x y (inl a) (inr (inl b)) = absurd (a.0 b.0)
  not_refuted_once n (r ∷ rs) (e ∷ es) x y (inl a) (inr (inr b)) = absurd (a.0 b.0)
  not_refuted_once n (r ∷ rs) (e ∷ es) x y (inr (inl a)) (inl b) = absurd (b.0 a.0)
  not_refuted_once n (r ∷ rs) (e ∷ es) x y (inr (inl (_, (why, h, p)))) (inr (inl (_, (other, k, q)))) =
      p ∙ ap (redex_fails n) (redex_reason sys (chosen u v r.which) r e.evidence why other h k) ∙ sym q
  not_refuted_once n (r ∷ rs) (e ∷ es) x y (inr (inl (_, (why, h, p)))) (inr (inr (_, k, b))) =
      absurd (redex_never_both sys (chosen u v r.which) r e.evidence why k h)
  not_refuted_once n (r ∷ rs) (e ∷ es) x y (inr (inr a)) (inl b) = absurd (b.0 a.0)
  not_refuted_once n (r ∷ rs) (e ∷ es) x y (inr (inr (_, k, a))) (inr (inl (_, (why, h, p)))) =
      absurd (redex_never_both sys (chosen u v r.which) r e.evidence why k h)
  not_refuted_once n (r ∷ rs) (e ∷ es) x y (inr (inr (_, _, a))) (inr (inr (_, _, b))) = not_refuted_once (suc n) rs es x y a b

  caps_large_alone : (o : Outcome) → o ≢ too_large → IsRigidOutcome sys u v o → AreRigidCapsLarge sys u v → ⊥
  caps_large_alone o ne h (inl (inl first)) = ((one_outcome sys kept u v).never_both o h).0 first
  caps_large_alone o ne h (inl (inr second)) = ((one_outcome sys kept u v).never_both o h).1 second
  caps_large_alone o ne h (inr k) = ne ((one_outcome sys kept u v).one o too_large h k)

  no_unifier : (b : List Binding) → unifier b ≢ too_large
  no_unifier b e = cc

  no_clash : clash ≢ too_large
  no_clash e = cc

  apart_or_not : (a : Apartness) (reason : Rejection) → AreShownApart sys u v a → AreNotShownApart sys u v a reason → ⊥
  apart_or_not (by_normal_forms es) reason a (inl b) = a.0 b.0
  apart_or_not (by_normal_forms es) reason (_, (rs, all, a)) (inr (_, (qs, each, b))) =
      refuted_or_not 1 qs es reason (subst (λ x. AreRefuted sys u v x es) (redexes_once sys u v rs qs all each) a) b
  apart_or_not by_rigid_caps reason a (inl b) = caps_large_alone clash no_clash a b.0
  apart_or_not by_rigid_caps reason a (inr ((b, h), _)) = (let same = (one_outcome sys kept u v).one clash (unifier b) a h in cc)

  not_apart_once : (a : Apartness) (x y : Rejection) → AreNotShownApart sys u v a x → AreNotShownApart sys u v a y → x ≡ y
  not_apart_once (by_normal_forms es) x y (inl a) (inl b) = a.1 ∙ sym b.1
  not_apart_once (by_normal_forms es) x y (inl a) (inr b) = absurd (b.0 a.0)
  not_apart_once (by_normal_forms es) x y (inr a) (inl b) = absurd (a.0 b.0)
  not_apart_once (by_normal_forms es) x y (inr (_, (rs, all, a))) (inr (_, (qs, each, b))) =
      not_refuted_once 1 qs es x y (subst (λ z. AreNotRefuted sys u v 1 z es x) (redexes_once sys u v rs qs all each) a) b
  not_apart_once by_rigid_caps x y (inl a) (inl b) = a.1 ∙ sym b.1
  not_apart_once by_rigid_caps x y (inl a) (inr ((b, h), _)) = absurd (caps_large_alone (unifier b) (no_unifier b) h a.0)
  not_apart_once by_rigid_caps x y (inr ((b, h), _)) (inl a) = absurd (caps_large_alone (unifier b) (no_unifier b) h a.0)
  not_apart_once by_rigid_caps x y (inr a) (inr b) = a.1 ∙ sym b.1

module _ (sys : System) (u v : Term) (a : Apartness) where
  ends_once : (x y : Rejection) → AreNoValidEnds sys u v a x → AreNoValidEnds sys u v a y → x ≡ y
  ends_once x y (inl f) (inl g) = f.1 ∙ sym g.1
  ends_once x y (inl f) (inr (inl g)) = absurd (f.0 g.0)
  ends_once x y (inl f) (inr (inr g)) = absurd (f.0 g.0)
  ends_once x y (inr (inl f)) (inl g) = absurd (g.0 f.0)
  ends_once x y (inr (inl f)) (inr (inl g)) = f.2 ∙ sym g.2
  ends_once x y (inr (inl f)) (inr (inr g)) = absurd (f.1 g.1)
  ends_once x y (inr (inr f)) (inl g) = absurd (g.0 f.0)
  ends_once x y (inr (inr f)) (inr (inl g)) = absurd (g.1 f.1)
  ends_once x y (inr (inr f)) (inr (inr g)) = not_apart_once sys u v a x y f.2 g.2

  ends_or_not : (x : Rejection) → AreValidEnds sys u v a → AreNoValidEnds sys u v a x → ⊥
  ends_or_not x h (inl f) = f.0 h.first
  ends_or_not x h (inr (inl f)) = f.1 h.second
  ends_or_not x h (inr (inr f)) = apart_or_not sys u v a x h.apart f.2

module _ (sys : System) (peak : Peak) where
  -- both ends are determined
  one_first : (u v w x : Term) → LeadsTo sys peak u v → LeadsTo sys peak w x → u ≡ w
  one_first u v w x a b = derives_unique sys [] peak.start peak.first u w a.first b.first

  one_second : (u v w x : Term) → LeadsTo sys peak u v → LeadsTo sys peak w x → v ≡ x
  one_second u v w x a b = derives_unique sys [] peak.start peak.second v x a.second b.second

  first_or_bad : (u : Term) (bad : BadStep) → Derives sys [] peak.start peak.first u → IsFirstBad sys [] peak.start peak.first bad → ⊥
  first_or_bad u bad d f = ends_or_fails sys [] 1 peak.start peak.first u bad.path bad.reason d f

  second_or_bad : (v : Term) (bad : BadStep) → Derives sys [] peak.start peak.second v → IsFirstBad sys [] peak.start peak.second bad → ⊥
  second_or_bad v bad d f = ends_or_fails sys [] 1 peak.start peak.second v bad.path bad.reason d f

  pub one_reason : (r s : Rejection) → IsPeakRejected sys peak r → IsPeakRejected sys peak s → r ≡ s
  one_reason r s (foreign_start f) (foreign_start g) = refl
  one_reason r s (foreign_start f) (first_fails own other g) = absurd (f own)
  one_reason r s (foreign_start f) (second_fails own u other d g) = absurd (f own)
  one_reason r s (foreign_start f) (not_apart own u v reason ends g) = absurd (f own)
  one_reason r s (first_fails own bad f) (foreign_start g) = absurd (g own)
  one_reason r s (first_fails own bad f) (first_fails own' other g) =
      let same = fails_unique sys [] 1 peak.start peak.first bad.path other.path bad.reason other.reason f g in
      ap₂ (λ (p : List ℕ) (why : StepReason). first_bad (record { path = p; reason = why })) same.path same.reason
  one_reason r s (first_fails own bad f) (second_fails own' u other d g) = absurd (first_or_bad u bad d f)
  one_reason r s (first_fails own bad f) (not_apart own' u v reason ends g) = absurd (first_or_bad u bad ends.first f)
  one_reason r s (second_fails own u bad d f) (foreign_start g) = absurd (g own)
  one_reason r s (second_fails own u bad d f) (first_fails own' other g) = absurd (first_or_bad u other d g)
  one_reason r s (second_fails own u bad d f) (second_fails own' w other e g) =
      let same = fails_unique sys [] 1 peak.start peak.second bad.path other.path bad.reason other.reason f g in
      ap₂ (λ (p : List ℕ) (why : StepReason). second_bad (record { path = p; reason = why })) same.path same.reason
  one_reason r s (second_fails own u bad d f) (not_apart own' w v reason ends g) = absurd (second_or_bad v bad ends.second f)
  one_reason r s (not_apart own u v reason ends f) (foreign_start g) = absurd (g own)
  one_reason r s (not_apart own u v reason ends f) (first_fails own' other g) = absurd (first_or_bad u other ends.first g)
  one_reason r s (not_apart own u v reason ends f) (second_fails own' w other d g) = absurd (second_or_bad v other ends.second g)
  one_reason r s (not_apart own u v reason ends f) (not_apart own' w x other ends' g) =
      ends_once sys w x peak.apart reason other
      (subst₂ (λ a b. AreNoValidEnds sys a b peak.apart reason) (one_first u v w x ends ends') (one_second u v w x ends ends') f) g

  pub never_both : (r : Rejection) → IsPeakRejected sys peak r → IsValidPeak sys peak → ⊥
  never_both r (foreign_start f) valid = f valid.start
  never_both r (first_fails own bad f) valid = first_or_bad valid.u bad valid.ends.first f
  never_both r (second_fails own u bad d f) valid = second_or_bad valid.v bad valid.ends.second f
  never_both r (not_apart own u v reason ends f) valid =
      ends_or_not sys valid.u valid.v peak.apart reason valid.apart
      (subst₂ (λ a b. AreNoValidEnds sys a b peak.apart reason) (one_first u v valid.u valid.v ends valid.ends) (one_second u v valid.u valid.v ends valid.ends) f)

pub peak_answer : (sys : System) (peak : Peak) → IsOneAnswer (IsValidPeak sys peak) (IsPeakRejected sys peak)
peak_answer sys peak = record { one_reason = one_reason sys peak; never_both = never_both sys peak }
