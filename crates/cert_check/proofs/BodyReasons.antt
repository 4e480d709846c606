-- Why a certificate without steps is rejected is never that a step fails.
use Rattle.std.proofs.Common.{◌≡◌, ℕ, suc, List, [], ◌∷◌, inl, inr, sym, subst}
use Rattle.rewriting.specs.Prelude.{Term, System}
use Rattle.unifier_run.specs.Overlaps.{Overlap}
use Rattle.interpretations.specs.Judgement.{Judgement}
use Rattle.certificates.specs.Prelude.{PairEntry, Redex, Apartness, by_normal_forms, by_rigid_caps, Peak, Certificate, ortho_certificate, quasi_certificate, peak_certificate}
use Rattle.certificates.specs.Prelude.{simplified_certificate, Rejection}
use Rattle.cert_grammar.specs.Versions.{Version, first_version, second_version, IsUnsimplified, CanSimplify}
use Rattle.valid_certificates.specs.Kinds.{Kind}
use Rattle.valid_certificates.specs.Entries.{AreNotSettled, DoNotSettle, pair_is_large, pairs_are_many, entry_fails}
use Rattle.valid_certificates.specs.Confluence.{IsOrthoRejected, not_left_linear, not_type3, not_oriented, not_right_stable, ortho_pairs_fail, IsQuasiRejected, not_deterministic}
use Rattle.valid_certificates.specs.Confluence.{side_is_reducible, measure_is_bad, unraveling_is_large, quasi_pairs_fail}
use Rattle.valid_certificates.specs.Peaks.{RedexPlace, AreNotRefuted, AreNotShownApart, AreNoValidEnds, IsPeakRejected, foreign_start, first_fails, second_fails, not_apart}
use Rattle.valid_certificates.specs.Certificates.{IsMeasureJudged, IsRejected}
use Rattle.cert_check.specs.Kinds.{IsOfStep}

-- a reason that is not one of a step
abbrev OfBody : Rejection → Type 0
OfBody r = IsOfStep r → ⊥

by_reason : (r s : Rejection) → r ≡ s → OfBody s → OfBody r
by_reason r s e h = subst OfBody (sym e) h

of_list : (kind : Kind) (sys : System) (n : ℕ) (os : List Overlap) (es : List PairEntry) (r : Rejection) → AreNotSettled kind sys n os es r → OfBody r
of_list kind sys n [] [] r h = absurd h
of_list kind sys n [] (e ∷ es) r h = by_reason r _ h (λ k. k)
of_list kind sys n (o ∷ os) [] r h = by_reason r _ h (λ k. k)
of_list kind sys n (o ∷ os) (e ∷ es) r (inl h) = by_reason r _ h.1 (λ k. k)
of_list kind sys n (o ∷ os) (e ∷ es) r (inr (inl h)) = by_reason r _ h.1.2 (λ k. k)
of_list kind sys n (o ∷ os) (e ∷ es) r (inr (inr h)) = of_list kind sys (suc n) os es r h.2

of_entries : (kind : Kind) (sys : System) (es : List PairEntry) (r : Rejection) → DoNotSettle kind sys es r → OfBody r
of_entries kind sys es r (pair_is_large i p j h) = λ k. k
of_entries kind sys es r (pairs_are_many h) = λ k. k
of_entries kind sys es r (entry_fails os reason are h) = of_list kind sys 1 os es reason h

of_ortho : (sys : System) (es : List PairEntry) (r : Rejection) → IsOrthoRejected sys es r → OfBody r
of_ortho sys es r (not_left_linear blame h) = λ k. k
of_ortho sys es r (not_type3 blame a h) = λ k. k
of_ortho sys es r (not_oriented blame a b h) = λ k. k
of_ortho sys es r (not_right_stable blame a b c h) = λ k. k
of_ortho sys es r (ortho_pairs_fail reason a h) = of_entries _ sys es reason h

of_quasi : (Is : Judgement → Type 0) (sys : System) (es : List PairEntry) (r : Rejection) → IsQuasiRejected Is sys es r → OfBody r
of_quasi Is sys es r (not_deterministic blame h) = λ k. k
of_quasi Is sys es r (side_is_reducible i k a h) = λ k. k
of_quasi Is sys es r (measure_is_bad why a b h) = λ k. k
of_quasi Is sys es r (unraveling_is_large i a b h) = λ k. k
of_quasi Is sys es r (quasi_pairs_fail reason a b c h) = of_entries _ sys es reason h

of_redexes : (sys : System) (u v : Term) (n : ℕ) (rs : List RedexPlace) (es : List Redex) (r : Rejection) → AreNotRefuted sys u v n rs es r → OfBody r
of_redexes sys u v n [] [] r h = absurd h
of_redexes sys u v n [] (e ∷ es) r h = by_reason r _ h (λ k. k)
of_redexes sys u v n (p ∷ ps) [] r h = by_reason r _ h (λ k. k)
of_redexes sys u v n (p ∷ ps) (e ∷ es) r (inl h) = by_reason r _ h.1 (λ k. k)
of_redexes sys u v n (p ∷ ps) (e ∷ es) r (inr (inl h)) = by_reason r _ h.1.2 (λ k. k)
of_redexes sys u v n (p ∷ ps) (e ∷ es) r (inr (inr h)) = of_redexes sys u v (suc n) ps es r h.2

of_terms : (sys : System) (u v : Term) (a : Apartness) (r : Rejection) → AreNotShownApart sys u v a r → OfBody r
of_terms sys u v (by_normal_forms es) r (inl h) = by_reason r _ h.1 (λ k. k)
of_terms sys u v (by_normal_forms es) r (inr h) = of_redexes sys u v 1 h.1.0 es r h.1.2
of_terms sys u v by_rigid_caps r (inl h) = by_reason r _ h.1 (λ k. k)
of_terms sys u v by_rigid_caps r (inr h) = by_reason r _ h.1 (λ k. k)

of_ends : (sys : System) (u v : Term) (a : Apartness) (r : Rejection) → AreNoValidEnds sys u v a r → OfBody r
of_ends sys u v a r (inl h) = by_reason r _ h.1 (λ k. k)
of_ends sys u v a r (inr (inl h)) = by_reason r _ h.2 (λ k. k)
of_ends sys u v a r (inr (inr h)) = of_terms sys u v a r h.2

of_peak : (sys : System) (peak : Peak) (r : Rejection) → IsPeakRejected sys peak r → OfBody r
of_peak sys peak r (foreign_start h) = λ k. k
of_peak sys peak r (first_fails a bad h) = λ k. k
of_peak sys peak r (second_fails a u bad b h) = λ k. k
of_peak sys peak r (not_apart a u v reason leads h) = of_ends sys u v peak.apart reason h

pub of_body : (sys : System) (c : Certificate) (r : Rejection) → IsUnsimplified c → IsRejected sys c r → OfBody r
of_body sys (ortho_certificate es) r bare h = of_ortho sys es r h
of_body sys (quasi_certificate m es) r bare h = of_quasi (IsMeasureJudged sys m) sys es r h
of_body sys (peak_certificate p) r bare h = of_peak sys p r h
of_body sys (simplified_certificate steps c) r bare h = absurd bare

-- the body of a certificate with steps has none
pub body_is_bare : (v : Version) (body : Certificate) → CanSimplify v body → IsUnsimplified body
body_is_bare first_version body h = absurd h
body_is_bare second_version body h = h
