-- What is judged of a body, behind steps, is judged of the certificate before them.
use Rattle.std.proofs.Common.{◌≡◌, ℕ, suc, inl, inr, refl, sym, subst, List, map, Result, Ok, Err}
use Rattle.std.specs.Prelude.{OnOk}
use Rattle.rewriting.specs.Prelude.{Term, System, IsSystem, IsConfluent}
use Rattle.rewriting.proofs.Laws.{well_formed}
use Rattle.certificates.specs.Prelude.{Peak, Simplification, Certificate, ortho_certificate, quasi_certificate, peak_certificate, simplified_certificate, Rejection}
use Rattle.cert_model.specs.CertificateView.{simp_view}
use Rattle.cert_model.specs.ReasonView.{rejected_view}
use Rattle.cert_model.specs.declared.model.Simp.{Simp}
use Rattle.simplifications.specs.Simplifying.{AllSimplify}
use Rattle.simplifications.proofs.Systems.{steps_make}
use Rattle.simplifications.proofs.Levels.{keep_levels}
use Rattle.simplifications.proofs.Alike.{alike}
use Rattle.validity.specs.declared.CheckError.{CheckError}
use Rattle.validity.specs.declared.CheckError.TheVariants.{Rejected, NoMemory}
use Rattle.valid_certificates.specs.Certificates.{IsValid, IsRejected}
use Rattle.valid_certificates.specs.Laws.{ReachesApart}
use Rattle.valid_certificates.specs.CarriedBack.{IsPeakApart}
use Rattle.valid_certificates.proofs.CarriedBack.{peaks_back}
use Rattle.cert_check.specs.Kinds.{verdict_of, CanBeJudged}
use Rattle.cert_check.specs.Answers.{StepsAnswer, VerdictAnswers}

-- a peak without steps before it
pub peak_apart : (sys : System) (peak : Peak) → ReachesApart sys peak → IsPeakApart sys (peak_certificate peak)
peak_apart sys peak h = (sys, peak, (refl, refl), record { leads = h.leads; apart = h.apart })

pub apart_so : (sys : System) (peak : Peak) (r : Result (Unit {0}) CheckError) → OnOk r (ReachesApart sys peak) → OnOk r (IsPeakApart sys (peak_certificate peak))
apart_so sys peak (Ok _) h = peak_apart sys peak h
apart_so sys peak (Err e) h = tt

-- what is judged of the body in the last system is judged of the certificate in the first one
pub record StandsBehind (sys : System) (c : Certificate) (last : System) (body : Certificate) : Type 0 where
  pub system : IsSystem last
  pub judged : CanBeJudged last body
  pub valid : IsValid last body → IsValid sys c
  pub rejected : (r : Rejection) → IsRejected last body r → IsRejected sys c r
  pub verdict : verdict_of body ≡ verdict_of c
  pub confluent : IsConfluent last → IsConfluent sys
  pub apart : IsPeakApart last body → IsPeakApart sys c

-- a peak behind good steps is one before them
pub apart_before : (sys next : System) (steps : List Simplification) (body : Certificate) → IsSystem sys → AllSimplify sys steps next → IsPeakApart next body
    → IsPeakApart sys (simplified_certificate steps body)
apart_before sys next steps body good all (end, peak, ends, reaches) =
    let carried : (u v : Term) → _ = λ u v leads. peaks_back sys next steps peak.start u v (well_formed sys good) all (reaches.apart u v leads) in
    (end, peak, (next, all, ends), record { leads = reaches.leads; apart = carried })

-- and confluence is carried back
pub confluent_before : (sys next : System) (steps : List Simplification) → IsSystem sys → AllSimplify sys steps next → IsConfluent next → IsConfluent sys
confluent_before sys next steps good all k = (alike sys next (keep_levels sys next steps (well_formed sys good) all)).confluent.1 k

-- a level of steps
module _ (sys : System) (c : Certificate) (last : System) (steps : List Simplification) (body : Certificate) (h : StandsBehind sys c last (simplified_certificate steps body)) where
  module _ (next : System) (all : AllSimplify last steps next) where
    pub level_behind : StandsBehind sys c next body
    level_behind = record {
      system = steps_make last next steps h.system all;
      judged = h.judged next all;
      valid = λ v. h.valid (next, all, v);
      rejected = λ r k. h.rejected r (inr (next, all, k));
      verdict = h.verdict;
      confluent = λ k. h.confluent (confluent_before last next steps h.system all k);
      apart = λ k. h.apart (apart_before last next steps body h.system all k);
    }

  pub steps_rejected : (e : CheckError) → StepsAnswer last steps (Err e) → VerdictAnswers sys c (Err e)
  steps_rejected (Rejected reason) k = h.rejected (rejected_view reason) (inl k)
  steps_rejected NoMemory k = tt

-- the level as the program has it
module _ (sys : System) (c : Certificate) (last : System) (here body : Certificate) (steps given : List Simp) (is : here ≡ simplified_certificate (map simp_view steps) body)
    (same : given ≡ steps) (h : StandsBehind sys c last here) where
  stands : StandsBehind sys c last (simplified_certificate (map simp_view steps) body)
  stands = subst (StandsBehind sys c last) is h

  pub level_made : (next : System) → AllSimplify last (map simp_view given) next → (b : Certificate) → b ≡ body → StandsBehind sys c next b
  level_made next all b e =
      subst (StandsBehind sys c next) (sym e)
      (level_behind sys c last (map simp_view steps) body stands next (subst (λ (l : List Simp). AllSimplify last (map simp_view l) next) same all))

  pub level_rejected : (e : CheckError) → StepsAnswer last (map simp_view given) (Err e) → VerdictAnswers sys c (Err e)
  level_rejected e k =
      steps_rejected sys c last (map simp_view steps) body stands e (subst (λ (l : List Simp). StepsAnswer last (map simp_view l) (Err e)) same k)

-- how many levels of steps stand before the body
abbrev pub levels_of : Certificate → ℕ
levels_of (ortho_certificate pairs) = 0
levels_of (quasi_certificate measure pairs) = 0
levels_of (peak_certificate peak) = 0
levels_of (simplified_certificate steps c) = suc (levels_of c)
