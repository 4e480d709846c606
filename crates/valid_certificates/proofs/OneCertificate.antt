-- A certificate is valid, or rejected for one reason.
use Rattle.std.proofs.Common.{◌≡◌, ◌⊎◌, inl, inr, ℕ, suc, ◌<◌, List, [], ◌∷◌, refl, sym, ap, ap₂, ◌∙◌, subst}
use Rattle.rewriting.specs.Prelude.{System, EachRule, IsLeftLinear, IsType3, IsExtendedOriented, IsRightStable, IsDeterministic}
use Rattle.rewriting.proofs.Conditions.{Order, is_smaller, is_equal, is_greater, order}
use Rattle.unifier_run.specs.Overlaps.{Triple, Overlap}
use Rattle.interpretations.specs.Judgement.{Judgement, good, not_good, unraveling_large}
use Rattle.certificates.specs.Prelude.{PairEntry, MeasureCertificate, linear_measure, precedence_measure, Simplification, Certificate, ortho_certificate, quasi_certificate}
use Rattle.certificates.specs.Prelude.{peak_certificate, simplified_certificate, Class, left_linear, type3, extended_oriented, right_stable, deterministic, Blame}
use Rattle.certificates.specs.Prelude.{MeasureReason, Rejection, class_fails, not_irreducible, measure_fails, unraveling_large as large_unraveling, pair_large, evidence_fails}
use Rattle.certificates.specs.Prelude.{simplification_fails, IsInClass}
use Rattle.path_orders.proofs.OneJudgement.{judgement_once as precedence_once}
use Rattle.valid_certificates.specs.Kinds.{Kind}
use Rattle.valid_certificates.specs.Kinds.{ortho, quasi}
use Rattle.valid_certificates.specs.Entries.{AreSettled, AreNotSettled, DoSettle, DoNotSettle, pair_is_large, pairs_are_many, entry_fails}
use Rattle.valid_certificates.specs.Confluence.{IsValidOrtho, IsBlameOf, IsOrthoRejected, not_left_linear, not_type3, not_oriented, not_right_stable, ortho_pairs_fail}
use Rattle.valid_certificates.specs.Confluence.{AreRightSidesIrreducible, IsFirstReducible, IsValidQuasi, IsQuasiRejected, not_deterministic, side_is_reducible, measure_is_bad}
use Rattle.valid_certificates.specs.Confluence.{unraveling_is_large, quasi_pairs_fail}
use Rattle.valid_certificates.specs.Certificates.{IsMeasureJudged, IsValid, IsStepRejected, IsRejected}
use Rattle.simplifications.specs.Simplifying.{AllSimplify}
use Rattle.simplifications.proofs.OneAnswer.{one_answer, all_once}
use Rattle.valid_certificates.specs.Laws.{IsOneAnswer, CertificatesHaveOneAnswer}
use Rattle.rewriting.proofs.Once.{IsOnce, or_once, test_once, with_once, once_within}
use Rattle.valid_certificates.proofs.OneAnswer.{peak_answer}
use Rattle.valid_certificates.proofs.OneBlame.{blame_once, blame_excludes}
use Rattle.valid_certificates.proofs.OneEvidence.{never_judged, one_judged}
use Rattle.interpretations.proofs.OneJudgement.{judgement_once}
use Rattle.valid_certificates.proofs.OneOverlaps.{overlaps_once, overlaps_or_large, overlaps_or_many, large_once, large_or_many}

-- a test fails for one reason, or it holds and what follows has one answer
test_answer : (H V : Type 0) (F R : Rejection → Type 0) → ((r : Rejection) → F r → H → ⊥) → IsOnce Rejection F → IsOneAnswer V R → IsOneAnswer (H × V) (λ r. F r ⊎ (H × R r))
test_answer H V F R apart once rest = record { one_reason = test_once Rejection H F R apart once rest.one_reason; never_both = go }
  where
    go : (r : Rejection) → F r ⊎ (H × R r) → H × V → ⊥
    go r (inl f) (h, v) = apart r f h
    go r (inr (_, k)) (h, v) = rest.never_both r k v

-- the same answers, told in another way
answer_within : (V W : Type 0) (R S : Rejection → Type 0) → (V → W) → ((r : Rejection) → R r → S r) → IsOneAnswer W S → IsOneAnswer V R
answer_within V W R S valid rejected answer =
    record { one_reason = once_within Rejection R S rejected answer.one_reason; never_both = λ r h v. answer.never_both r (rejected r h) (valid v) }

module _ (kind : Kind) (sys : System) where
  settled_or_not : (n : ℕ) (os : List Overlap) (es : List PairEntry) (r : Rejection) → AreSettled kind sys os es → AreNotSettled kind sys n os es r → ⊥
  settled_or_not n [] [] r a b = b
  settled_or_not n [] (e ∷ es) r a b = a
  settled_or_not n (o ∷ os) [] r a b = a
  settled_or_not n (o ∷ os) (e ∷ es) r a (inl b) = b.0 a.0
  settled_or_not n (o ∷ os) (e ∷ es) r a (inr (inl (_, (why, h, _)))) = never_judged kind sys o e.evidence why a.1 h
  settled_or_not n (o ∷ os) (e ∷ es) r a (inr (inr (_, _, b))) = settled_or_not (suc n) os es r a.2 b

  not_settled_once : (n : ℕ) (os : List Overlap) (es : List PairEntry) → IsOnce Rejection (AreNotSettled kind sys n os es)
  not_settled_once n [] [] r s a b = absurd a
  not_settled_once n [] (e ∷ es) r s a b = a ∙ sym b
  not_settled_once n (o ∷ os) [] r s a b = a ∙ sym b
  not_settled_once n (o ∷ os) (e ∷ es) r s (inl a) (inl b) = a.1 ∙ sym b.1
  not_settled_once n (o ∷ os) (e ∷ es) r s (inl a) (inr (inl b)) = absurd (a.0 b.0)
  not_settled_once n (o ∷ os) (e ∷ es) r s (inl a) (inr (inr b)) = absurd (a.0 b.0)
  not_settled_once n (o ∷ os) (e ∷ es) r s (inr (inl a)) (inl b) = absurd (b.0 a.0)
  not_settled_once n (o ∷ os) (e ∷ es) r s (inr (inl (_, (why, h, p)))) (inr (inl (_, (other, k, q)))) = p ∙ ap (evidence_fails n) (one_judged kind sys o e.evidence why other h k) ∙ sym q
  not_settled_once n (o ∷ os) (e ∷ es) r s (inr (inl (_, (why, h, p)))) (inr (inr (_, k, b))) = absurd (never_judged kind sys o e.evidence why k h)
  not_settled_once n (o ∷ os) (e ∷ es) r s (inr (inr a)) (inl b) = absurd (b.0 a.0)
  not_settled_once n (o ∷ os) (e ∷ es) r s (inr (inr (_, k, a))) (inr (inl (_, (why, h, p)))) = absurd (never_judged kind sys o e.evidence why k h)
  not_settled_once n (o ∷ os) (e ∷ es) r s (inr (inr (_, _, a))) (inr (inr (_, _, b))) = not_settled_once (suc n) os es r s a b

  module _ (es : List PairEntry) where
    -- the reason for the first triple that is too large
    large_reason : Triple → Rejection
    large_reason (i, (p, j)) = pair_large i p j

    pub entries_once : IsOnce Rejection (DoNotSettle kind sys es)
    unfolding large_reason
    entries_once r s (pair_is_large i p j a) (pair_is_large k q l b) = ap large_reason (large_once sys i p j k q l a b)
    entries_once r s (pair_is_large i p j a) (pairs_are_many b) = absurd (large_or_many sys i p j a b)
    entries_once r s (pair_is_large i p j a) (entry_fails os y are b) = absurd (overlaps_or_large sys os i p j are a)
    entries_once r s (pairs_are_many a) (pair_is_large k q l b) = absurd (large_or_many sys k q l b a)
    entries_once r s (pairs_are_many a) (pairs_are_many b) = refl
    entries_once r s (pairs_are_many a) (entry_fails os y are b) = absurd (overlaps_or_many sys os are a)
    entries_once r s (entry_fails os x are a) (pair_is_large k q l b) = absurd (overlaps_or_large sys os k q l are b)
    entries_once r s (entry_fails os x are a) (pairs_are_many b) = absurd (overlaps_or_many sys os are b)
    entries_once r s (entry_fails os x are a) (entry_fails qs y all b) =
        not_settled_once 1 qs es x y (subst (λ z. AreNotSettled kind sys 1 z es x) (overlaps_once sys os qs are all) a) b

    entries_or_not : (r : Rejection) → DoNotSettle kind sys es r → DoSettle kind sys es → ⊥
    entries_or_not r (pair_is_large i p j a) (os, are, h) = overlaps_or_large sys os i p j are a
    entries_or_not r (pairs_are_many a) (os, are, h) = overlaps_or_many sys os are a
    entries_or_not r (entry_fails qs x all a) (os, are, h) = settled_or_not 1 qs es x (subst (λ z. AreSettled kind sys z es) (overlaps_once sys os qs are all) h) a

    entries_answer : IsOneAnswer (DoSettle kind sys es) (DoNotSettle kind sys es)
    entries_answer = record { one_reason = entries_once; never_both = entries_or_not }

module _ (sys : System) where
  -- a class fails
  abbrev ClassFails : Class → Rejection → Type 0
  ClassFails class r = (blame : Blame) × IsBlameOf sys class blame × (r ≡ class_fails blame)

  class_once : (class : Class) → IsOnce Rejection (ClassFails class)
  class_once class = with_once Rejection Blame (IsBlameOf sys class) (λ blame r. r ≡ class_fails blame) (blame_once sys class) (λ blame r s h k. h ∙ sym k)

  class_answer : (class : Class) (V : Type 0) (R : Rejection → Type 0) → IsOneAnswer V R
      → IsOneAnswer (EachRule sys (λ r. IsInClass sys class r) × V) (λ r. ClassFails class r ⊎ (EachRule sys (λ q. IsInClass sys class q) × R r))
  class_answer class V R answer =
      test_answer (EachRule sys (λ r. IsInClass sys class r)) V (ClassFails class) R (λ r h all. blame_excludes sys class h.0 h.1 all) (class_once class) answer

  -- the condition that is blamed is one
  reducible_apart : (i j n m : ℕ) (a : IsFirstReducible sys i n) (b : IsFirstReducible sys j m) → (i < j) ⊎ ((i ≡ j) × (a.place < b.place)) → ⊥
  reducible_apart i j n m a b lt = a.fails (b.earlier i a.rule a.place a.condition a.is_rule a.is_condition lt)

  reducible_once : IsOnce (ℕ × ℕ) (λ w. IsFirstReducible sys w.0 w.1)
  reducible_once v w a b = go (order v.0 w.0) (order a.place b.place)
    where
      go : Order v.0 w.0 → Order a.place b.place → v ≡ w
      go (is_smaller lt) o = absurd (reducible_apart v.0 w.0 v.1 w.1 a b (inl lt))
      go (is_greater lt) o = absurd (reducible_apart w.0 v.0 w.1 v.1 b a (inl lt))
      go (is_equal e) (is_smaller lt) = absurd (reducible_apart v.0 w.0 v.1 w.1 a b (inr (e, lt)))
      go (is_equal e) (is_greater lt) = absurd (reducible_apart w.0 v.0 w.1 v.1 b a (inr (sym e, lt)))
      go (is_equal e) (is_equal h) =
          let pair : ℕ → ℕ → ℕ × ℕ = λ x y. (x, y) in
          ap₂ pair e (a.number ∙ ap suc h ∙ sym b.number)

  abbrev SideFails : Rejection → Type 0
  SideFails r = (w : ℕ × ℕ) × IsFirstReducible sys w.0 w.1 × (r ≡ not_irreducible w.0 w.1)

  side_once : IsOnce Rejection SideFails
  side_once = with_once Rejection (ℕ × ℕ) (λ w. IsFirstReducible sys w.0 w.1) (λ w r. r ≡ not_irreducible w.0 w.1) reducible_once (λ w r s h k. h ∙ sym k)

  side_or_not : (r : Rejection) → SideFails r → AreRightSidesIrreducible sys → ⊥
  side_or_not r (w, h, _) all = h.fails (all w.0 h.rule h.place h.condition h.is_rule h.is_condition)

  module _ (es : List PairEntry) where
    abbrev OrthoValid : Type 0
    OrthoValid = IsLeftLinear sys × (IsType3 sys × (IsExtendedOriented sys × (IsRightStable sys × DoSettle ortho sys es)))

    abbrev OrthoCases : Rejection → Type 0
    OrthoCases r =
        ClassFails left_linear r
        ⊎ (IsLeftLinear sys × (ClassFails type3 r
        ⊎ (IsType3 sys × (ClassFails extended_oriented r
        ⊎ (IsExtendedOriented sys × (ClassFails right_stable r ⊎ (IsRightStable sys × DoNotSettle ortho sys es r)))))))

    ortho_cases : (r : Rejection) → IsOrthoRejected sys es r → OrthoCases r
    ortho_cases r (not_left_linear blame h) = inl (blame, h, refl)
    ortho_cases r (not_type3 blame a h) = inr (a, inl (blame, h, refl))
    ortho_cases r (not_oriented blame a b h) = inr (a, inr (b, inl (blame, h, refl)))
    ortho_cases r (not_right_stable blame a b c h) = inr (a, inr (b, inr (c, inl (blame, h, refl))))
    ortho_cases r (ortho_pairs_fail x all h) = inr (all.left_linear, inr (all.type3, inr (all.oriented, inr (all.right_stable, h))))

    ortho_valid : IsValidOrtho sys es → OrthoValid
    ortho_valid v = (v.classes.left_linear, (v.classes.type3, (v.classes.oriented, (v.classes.right_stable, v.pairs))))

    ortho_answer : IsOneAnswer (IsValidOrtho sys es) (IsOrthoRejected sys es)
    ortho_answer =
        answer_within (IsValidOrtho sys es) OrthoValid (IsOrthoRejected sys es) OrthoCases ortho_valid ortho_cases
        (class_answer left_linear _ _ (class_answer type3 _ _ (class_answer extended_oriented _ _ (class_answer right_stable _ _ (entries_answer ortho sys es)))))

    module _ (Is : Judgement → Type 0) (once : IsOnce Judgement Is) where
      -- the measure is judged not to be good
      abbrev MeasureFails : Rejection → Type 0
      MeasureFails r = ((why : MeasureReason) × Is (not_good why) × (r ≡ measure_fails why)) ⊎ ((i : ℕ) × Is (unraveling_large i) × (r ≡ large_unraveling i))

      same_why : (a b : MeasureReason) → Is (not_good a) → Is (not_good b) → a ≡ b
      same_why a b h k = (let e = once (not_good a) (not_good b) h k in cc)

      same_large : (i j : ℕ) → Is (unraveling_large i) → Is (unraveling_large j) → i ≡ j
      same_large i j h k = (let e = once (unraveling_large i) (unraveling_large j) h k in cc)

      bad_or_large : (a : MeasureReason) (i : ℕ) → Is (not_good a) → Is (unraveling_large i) → ⊥
      bad_or_large a i h k = (let e = once (not_good a) (unraveling_large i) h k in cc)

      measure_fails_once : IsOnce Rejection MeasureFails
      measure_fails_once =
          or_once Rejection (λ r. (why : MeasureReason) × Is (not_good why) × (r ≡ measure_fails why)) (λ r. (i : ℕ) × Is (unraveling_large i) × (r ≡ large_unraveling i))
          (λ r s h k. bad_or_large h.0 k.0 h.1 k.1) (with_once Rejection MeasureReason (λ why. Is (not_good why)) (λ why r. r ≡ measure_fails why) same_why (λ w r s h k. h ∙ sym k))
          (with_once Rejection ℕ (λ i. Is (unraveling_large i)) (λ i r. r ≡ large_unraveling i) same_large (λ w r s h k. h ∙ sym k))

      measure_or_not : (r : Rejection) → MeasureFails r → Is good → ⊥
      measure_or_not r (inl (why, h, _)) g = (let e = once (not_good why) good h g in cc)
      measure_or_not r (inr (i, h, _)) g = (let e = once (unraveling_large i) good h g in cc)

      abbrev QuasiValid : Type 0
      QuasiValid = IsDeterministic sys × (AreRightSidesIrreducible sys × (Is good × DoSettle quasi sys es))

      abbrev QuasiCases : Rejection → Type 0
      QuasiCases r =
          ClassFails deterministic r
          ⊎ (IsDeterministic sys × (SideFails r ⊎ (AreRightSidesIrreducible sys × (MeasureFails r ⊎ (Is good × DoNotSettle quasi sys es r)))))

      quasi_cases : (r : Rejection) → IsQuasiRejected Is sys es r → QuasiCases r
      quasi_cases r (not_deterministic blame h) = inl (blame, h, refl)
      quasi_cases r (side_is_reducible i k a h) = inr (a, inl ((i, k), h, refl))
      quasi_cases r (measure_is_bad why a b h) = inr (a, inr (b, inl (inl (why, h, refl))))
      quasi_cases r (unraveling_is_large i a b h) = inr (a, inr (b, inl (inr (i, h, refl))))
      quasi_cases r (quasi_pairs_fail x a b g h) = inr (a, inr (b, inr (g, h)))

      quasi_valid : IsValidQuasi Is sys es → QuasiValid
      quasi_valid v = (v.deterministic, (v.irreducible, (v.measure, v.pairs)))

      quasi_answer : IsOneAnswer (IsValidQuasi Is sys es) (IsQuasiRejected Is sys es)
      quasi_answer =
          answer_within (IsValidQuasi Is sys es) QuasiValid (IsQuasiRejected Is sys es) QuasiCases quasi_valid quasi_cases
          (class_answer deterministic _ _ (test_answer (AreRightSidesIrreducible sys) _ SideFails _ side_or_not side_once
          (test_answer (Is good) _ MeasureFails _ measure_or_not measure_fails_once (entries_answer quasi sys es))))

pub measure_judged_once : (sys : System) (m : MeasureCertificate) → IsOnce Judgement (IsMeasureJudged sys m)
measure_judged_once sys (linear_measure es) = judgement_once sys es
measure_judged_once sys (precedence_measure order) = precedence_once sys order

-- steps fail at one of them, for one reason, and then they lead to no system
step_rejected_once : (sys : System) (steps : List Simplification) (r s : Rejection) → IsStepRejected sys steps r → IsStepRejected sys steps s → r ≡ s
step_rejected_once sys steps r s (n, why, h, e) (m, other, k, d) =
    let same = (one_answer sys steps).one_reason n m why other h k in
    e ∙ ap₂ simplification_fails same.0 same.1 ∙ sym d

steps_or_not : (sys : System) (steps : List Simplification) (r : Rejection) (last : System) → IsStepRejected sys steps r → AllSimplify sys steps last → ⊥
steps_or_not sys steps r last (n, why, h, _) all = (one_answer sys steps).never_both last n why all h

-- behind steps, which lead to one system at most
module _ (sys : System) (steps : List Simplification) (c : Certificate) (each : (last : System) → IsOneAnswer (IsValid last c) (IsRejected last c)) where
  abbrev BodyFails : Rejection → Type 0
  BodyFails r = (last : System) × AllSimplify sys steps last × IsRejected last c r

  body_once : (r s : Rejection) → BodyFails r → BodyFails s → r ≡ s
  body_once r s h k = (each h.0).one_reason r s h.2 (subst (λ (x : System). IsRejected x c s) (all_once sys steps k.0 h.0 k.1 h.1) k.2)

  behind_or_not : (r : Rejection) → IsRejected sys (simplified_certificate steps c) r → IsValid sys (simplified_certificate steps c) → ⊥
  behind_or_not r (inl h) v = steps_or_not sys steps r v.0 h v.1
  behind_or_not r (inr h) v = (each h.0).never_both r h.2 (subst (λ (x : System). IsValid x c) (all_once sys steps v.0 h.0 v.1 h.1) v.2)

  behind_steps : IsOneAnswer (IsValid sys (simplified_certificate steps c)) (IsRejected sys (simplified_certificate steps c))
  behind_steps = record {
    one_reason = or_once Rejection (IsStepRejected sys steps) BodyFails (λ r s h k. steps_or_not sys steps r k.0 h k.1) (step_rejected_once sys steps) body_once;
    never_both = behind_or_not;
  }

pub certificate_answer : CertificatesHaveOneAnswer
certificate_answer sys (ortho_certificate es) = ortho_answer sys es
certificate_answer sys (quasi_certificate m es) = quasi_answer sys es (IsMeasureJudged sys m) (measure_judged_once sys m)
certificate_answer sys (peak_certificate p) = peak_answer sys p
certificate_answer sys (simplified_certificate steps c) = behind_steps sys steps c (λ last. certificate_answer last c)
