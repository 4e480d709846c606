-- Every certificate is valid, or rejected for a reason.
use Rattle.std.proofs.Common.{◌≡◌, ◌⊎◌, inl, inr, ℕ, suc, List, refl}
use Rattle.rewriting.specs.Prelude.{IsLeftLinear, IsType3, IsExtendedOriented, IsDeterministic, System, EachRule}
use Rattle.unifier_run.specs.Irreducible.{DoAllClash}
use Rattle.unifier_run.proofs.Total.{all_clash_decided}
use Rattle.interpretations.specs.Judgement.{Judgement, good, not_good, unraveling_large}
use Rattle.interpretations.proofs.Total.{interpretation_total}
use Rattle.certificates.specs.Prelude.{IsInClass, IsBlamed, PairEntry, Simplification, MeasureCertificate, linear_measure, precedence_measure, Certificate, ortho_certificate}
use Rattle.certificates.specs.Prelude.{quasi_certificate, peak_certificate, simplified_certificate, Class, left_linear, type3, extended_oriented, right_stable, deterministic, Blame}
use Rattle.certificates.specs.Prelude.{class_fails, not_irreducible, measure_fails, unraveling_large as large_unraveling, SimplificationReason, simplification_fails}
use Rattle.certificates.proofs.ClassTotal.{FirstSide, class_total, sides_total}
use Rattle.caps.proofs.Total.{pair_total as caps_of_two}
use Rattle.path_orders.proofs.Decided.{precedence_total}
use Rattle.judged_evidence.proofs.Judged.{infeasibility_total}
use Rattle.simplifications.specs.Simplifying.{AllSimplify, FailsAt}
use Rattle.simplifications.proofs.OneAnswer.{one_answer}
use Rattle.valid_certificates.specs.Kinds.{Kind, ortho, quasi}
use Rattle.valid_certificates.specs.Confluence.{IsInOrthoClasses, IsValidOrtho, IsOrthoRejected, not_left_linear, not_type3, not_oriented, not_right_stable, ortho_pairs_fail}
use Rattle.valid_certificates.specs.Confluence.{AreRightSidesIrreducible, IsFirstReducible, IsValidQuasi, IsQuasiRejected, not_deterministic, side_is_reducible, measure_is_bad}
use Rattle.valid_certificates.specs.Confluence.{unraveling_is_large, quasi_pairs_fail}
use Rattle.valid_certificates.specs.Certificates.{IsMeasureJudged, IsValid, IsRejected}
use Rattle.valid_certificates.specs.Entries.{DoSettle, DoNotSettle}
use Rattle.valid_certificates.specs.Laws.{CertificatesHaveAnAnswer}
use Rattle.valid_certificates.proofs.EntriesTotal.{HasAnswer, entries_total, peak_total}
use Rattle.valid_certificates.proofs.EvidenceTotal.{pair_total}

module _ (sys : System) (classes : (class : Class) → EachRule sys (IsInClass sys class) ⊎ ((blame : Blame) × (blame.class ≡ class) × IsBlamed sys blame)) where
  module _ (es : List PairEntry) (pairs : HasAnswer (DoSettle ortho sys es) (DoNotSettle ortho sys es)) where
    abbrev Ortho : Type 0
    Ortho = HasAnswer (IsValidOrtho sys es) (IsOrthoRejected sys es)

    in_classes : IsInOrthoClasses sys → HasAnswer (DoSettle ortho sys es) (DoNotSettle ortho sys es) → Ortho
    in_classes all (inl s) = inl (record { classes = all; pairs = s })
    in_classes all (inr (r, f)) = inr (r, ortho_pairs_fail r all f)

    fourth : IsLeftLinear sys → IsType3 sys → IsExtendedOriented sys → EachRule sys (IsInClass sys right_stable) ⊎ ((blame : Blame) × (blame.class ≡ right_stable) × IsBlamed sys blame) → Ortho
    fourth a b c (inr (blame, e, h)) = inr (class_fails blame, not_right_stable blame a b c (record { names = e; blamed = h }))
    fourth a b c (inl d) = in_classes (record { left_linear = a; type3 = b; oriented = c; right_stable = d }) pairs

    third : IsLeftLinear sys → IsType3 sys → EachRule sys (IsInClass sys extended_oriented) ⊎ ((blame : Blame) × (blame.class ≡ extended_oriented) × IsBlamed sys blame) → Ortho
    third a b (inr (blame, e, h)) = inr (class_fails blame, not_oriented blame a b (record { names = e; blamed = h }))
    third a b (inl c) = fourth a b c (classes right_stable)

    second : IsLeftLinear sys → EachRule sys (IsInClass sys type3) ⊎ ((blame : Blame) × (blame.class ≡ type3) × IsBlamed sys blame) → Ortho
    second a (inr (blame, e, h)) = inr (class_fails blame, not_type3 blame a (record { names = e; blamed = h }))
    second a (inl b) = third a b (classes extended_oriented)

    first : EachRule sys (IsInClass sys left_linear) ⊎ ((blame : Blame) × (blame.class ≡ left_linear) × IsBlamed sys blame) → Ortho
    first (inr (blame, e, h)) = inr (class_fails blame, not_left_linear blame (record { names = e; blamed = h }))
    first (inl a) = second a (classes type3)

    ortho_total : Ortho
    ortho_total = first (classes left_linear)

  module _ (Is : Judgement → Type 0) (measured : (j : Judgement) × Is j) (sides : AreRightSidesIrreducible sys ⊎ ((i : ℕ) × (k : ℕ) × IsFirstReducible sys i k))
      (es : List PairEntry) (pairs : HasAnswer (DoSettle quasi sys es) (DoNotSettle quasi sys es)) where
    abbrev Quasi : Type 0
    Quasi = HasAnswer (IsValidQuasi Is sys es) (IsQuasiRejected Is sys es)

    with_pairs : IsDeterministic sys → AreRightSidesIrreducible sys → Is good → HasAnswer (DoSettle quasi sys es) (DoNotSettle quasi sys es) → Quasi
    with_pairs a b g (inl s) = inl (record { deterministic = a; irreducible = b; measure = g; pairs = s })
    with_pairs a b g (inr (r, f)) = inr (r, quasi_pairs_fail r a b g f)

    with_measure : IsDeterministic sys → AreRightSidesIrreducible sys → (j : Judgement) × Is j → Quasi
    with_measure a b (good, h) = with_pairs a b h pairs
    with_measure a b (not_good why, h) = inr (measure_fails why, measure_is_bad why a b h)
    with_measure a b (unraveling_large i, h) = inr (large_unraveling i, unraveling_is_large i a b h)

    with_sides : IsDeterministic sys → AreRightSidesIrreducible sys ⊎ ((i : ℕ) × (k : ℕ) × IsFirstReducible sys i k) → Quasi
    with_sides a (inl b) = with_measure a b measured
    with_sides a (inr (i, k, h)) = inr (not_irreducible i k, side_is_reducible i k a h)

    with_class : EachRule sys (IsInClass sys deterministic) ⊎ ((blame : Blame) × (blame.class ≡ deterministic) × IsBlamed sys blame) → Quasi
    with_class (inr (blame, e, h)) = inr (class_fails blame, not_deterministic blame (record { names = e; blamed = h }))
    with_class (inl a) = with_sides a sides

    quasi_total : Quasi
    quasi_total = with_class (classes deterministic)

-- the measure of a certificate is judged
pub measure_total : (sys : System) (m : MeasureCertificate) → (j : Judgement) × IsMeasureJudged sys m j
measure_total sys (linear_measure es) = interpretation_total sys es
measure_total sys (precedence_measure order) = precedence_total sys order

-- all right sides of conditions are irreducible, or a first is not
right_sides_total : (sys : System) → AreRightSidesIrreducible sys ⊎ ((i : ℕ) × (k : ℕ) × IsFirstReducible sys i k)
right_sides_total sys = go (sides_total (DoAllClash sys) (all_clash_decided sys) sys)
  where
    go : AreRightSidesIrreducible sys ⊎ FirstSide (DoAllClash sys) sys → AreRightSidesIrreducible sys ⊎ ((i : ℕ) × (k : ℕ) × IsFirstReducible sys i k)
    go (inl all) = inl all
    go (inr f) =
        inr (
          f.number,
          suc f.place,
          record {
            rule = f.rule;
            condition = f.condition;
            place = f.place;
            number = refl;
            is_rule = f.is_rule;
            is_condition = f.is_condition;
            earlier = f.earlier;
            fails = f.fails;
          },
        )

module _ (sys : System) where
  pairs_total : (kind : Kind) (es : List PairEntry) → HasAnswer (DoSettle kind sys es) (DoNotSettle kind sys es)
  pairs_total kind es = entries_total kind sys (pair_total sys (caps_of_two sys) kind) es

-- behind steps, or at the first that fails
behind_total : (sys : System) (steps : List Simplification) (c : Certificate) → ((last : System) → HasAnswer (IsValid last c) (IsRejected last c))
    → HasAnswer (IsValid sys (simplified_certificate steps c)) (IsRejected sys (simplified_certificate steps c))
behind_total sys steps c each = go (one_answer sys steps).some
  where
    body : (last : System) → AllSimplify sys steps last → HasAnswer (IsValid last c) (IsRejected last c)
        → HasAnswer (IsValid sys (simplified_certificate steps c)) (IsRejected sys (simplified_certificate steps c))
    body last all (inl v) = inl (last, all, v)
    body last all (inr (r, h)) = inr (r, inr (last, all, h))

    go : ((last : System) × AllSimplify sys steps last) ⊎ ((n : ℕ) × (why : SimplificationReason) × FailsAt sys steps n why)
        → HasAnswer (IsValid sys (simplified_certificate steps c)) (IsRejected sys (simplified_certificate steps c))
    go (inl (last, all)) = body last all (each last)
    go (inr (n, why, h)) = inr (simplification_fails n why, inl (n, why, h, refl))

certificate_total : (sys : System) (c : Certificate) → HasAnswer (IsValid sys c) (IsRejected sys c)
certificate_total sys (ortho_certificate es) = ortho_total sys (class_total sys) es (pairs_total sys ortho es)
certificate_total sys (quasi_certificate m es) =
    quasi_total sys (class_total sys) (IsMeasureJudged sys m) (measure_total sys m) (right_sides_total sys) es (pairs_total sys quasi es)
certificate_total sys (peak_certificate p) = peak_total sys (infeasibility_total sys) (caps_of_two sys) p
certificate_total sys (simplified_certificate steps c) = behind_total sys steps c (λ last. certificate_total last c)

pub every_certificate : CertificatesHaveAnAnswer
every_certificate sys c = certificate_total sys c
