-- The answer to a text with steps, from that to its body.
use Rattle.std.proofs.Common.{◌≡◌, ℕ, List, [], map, Option, None, Some, Result, Ok, Err, inl, inr, sym, subst, ◌∙◌}
use Rattle.rewriting.specs.Prelude.{System, IsSystem, IsConfluent}
use Rattle.certificates.specs.Prelude.{PairEntry, Simplification, Certificate, simplified_certificate, Rejection}
use Rattle.simplifications.specs.Simplifying.{AllSimplify}
use Rattle.valid_certificates.specs.Certificates.{IsStepRejected}
use Rattle.valid_certificates.specs.CarriedBack.{IsPeakApart}
use Rattle.cops_names.specs.NameTable.{NameTable}
use Rattle.cert_model.specs.CertificateView.{simp_view}
use Rattle.cert_model.specs.ReasonView.{rejected_view}
use Rattle.cert_model.specs.declared.model.Simp.{Simp}
use Rattle.cert_model.specs.declared.reasons.Rejected as reasons
use Rattle.cert_grammar.specs.Prelude.{IsCertificateText, Version, IsUnsimplified, CanSimplify}
use Rattle.cert_openings.specs.Openings.{Opening, ortho_opening, quasi_opening, simplified_opening, certificate_for}
use Rattle.cert_words.specs.CertRefusals.{IsRefusedAs}
use Rattle.cert_words.specs.declared.error.CertError.{CertError}
use Rattle.cert_words.specs.declared.error.CertError.TheVariants as refused
use Rattle.cert_text.specs.OpenedText.{OpenedText, at_entries, whole, behind_steps, IsOpenedAs}
use Rattle.cert_check.specs.Kinds.{IsOfStep}
use Rattle.cert_check.specs.Answers.{OnYes, OnNo}
use Rattle.cert_check.specs.BytesErrors.{error_of_text}
use Rattle.cert_check.specs.Bytes.{BytesAnswers, behind, IsBare, IsOpenedFor, BodyAnswers, of_body}
use Rattle.cert_check.specs.declared.Verdict.{Verdict}
use Rattle.cert_check.specs.declared.Verdict.TheVariants.{Yes, No}
use Rattle.cert_check.specs.declared.bytes.BytesError.{BytesError}
use Rattle.cert_check.specs.declared.bytes.BytesError.TheVariants.{Cert, Rejected, RejectedBehindSteps, NoMemory}
use Rattle.cert_check.proofs.BodyReasons.{body_is_bare}
use Rattle.cert_check.proofs.Bounds.{same_symbols}
use Rattle.cert_check.proofs.Levels.{apart_before, confluent_before}

-- a body is not simplified again
bare_opening : (v : Version) (o : Opening) → CanSimplify v (certificate_for o []) → (es : List PairEntry) → IsUnsimplified (certificate_for o es)
bare_opening v ortho_opening h es = tt
bare_opening v (quasi_opening m) h es = tt
bare_opening v (simplified_opening steps o) h es = absurd (body_is_bare v (simplified_certificate steps (certificate_for o [])) h)

pub bare_behind : (names : NameTable) (bytes : List ℕ) (steps : List Simplification) (t : OpenedText) → IsOpenedAs names bytes (behind_steps steps t) → IsBare t
bare_behind names bytes steps (at_entries o r) h = bare_opening h.2.read.version o h.2.read.allowed
bare_behind names bytes steps (whole c) h = body_is_bare h.0 c h.1.spelt.0

nothing_bare : (steps : List Simplification) (t : OpenedText) → IsBare (behind_steps steps t) → ⊥
nothing_bare steps (at_entries o r) h = h []
nothing_bare steps (whole c) h = h

pub never_simplified : (steps : List Simplification) (t u : OpenedText) → t ≡ behind_steps steps u → IsBare t → ⊥
never_simplified steps t u e h = nothing_bare steps u (subst IsBare e h)

-- a refusal is told as it is, and want of memory as such
pub told : (sys : System) (names : NameTable) (bytes : List ℕ) (e : CertError) → IsRefusedAs names bytes e → BytesAnswers sys names bytes (Err (error_of_text e))
told sys names bytes refused.NoMemory h = tt
told sys names bytes _ h = (λ k. cc, h)

-- ---- without steps

pub unsimplified_answered : (sys : System) (names : NameTable) (bytes : List ℕ) (r : Result Verdict BytesError) → BodyAnswers sys names bytes None r → BytesAnswers sys names bytes r
unsimplified_answered sys names bytes (Ok v) h = h
unsimplified_answered sys names bytes (Err (Cert e)) h = h
unsimplified_answered sys names bytes (Err (Rejected reason)) h = (h.0, h.1, h.2, inl h.3)
unsimplified_answered sys names bytes (Err (RejectedBehindSteps reason)) h = absurd h
unsimplified_answered sys names bytes (Err NoMemory) h = tt

-- ---- behind good steps

module _ (sys last : System) (steps : List Simplification) (good : IsSystem sys) (all : AllSimplify sys steps last) where
  -- the text is one for the system that they leave
  pub opened_for_last : (names : NameTable) (bytes : List ℕ) (t : OpenedText) → IsOpenedFor sys names bytes (Some steps) t → IsOpenedFor last names bytes (Some steps) t
  opened_for_last names bytes t h = record { named = same_symbols sys last steps good all ∙ h.named; opened = h.opened }

  pub simplified_answered : (names : NameTable) (bytes : List ℕ) (r : Result Verdict BytesError) → BodyAnswers last names bytes (Some steps) r → BytesAnswers sys names bytes (of_body r)
  simplified_answered names bytes (Ok v) h = (simplified_certificate steps h.0, h.1, (last, all, h.2), h.3)
  simplified_answered names bytes (Err (Cert e)) h = h
  simplified_answered names bytes (Err (Rejected reason)) h = (steps, h.0, last, h.1, all, h.2)
  simplified_answered names bytes (Err (RejectedBehindSteps reason)) h = absurd h
  simplified_answered names bytes (Err NoMemory) h = tt

  pub simplified_yes : (r : Result Verdict BytesError) → OnYes r (IsConfluent last) → OnYes (of_body r) (IsConfluent sys)
  simplified_yes (Ok Yes) h = confluent_before sys last steps good all h
  simplified_yes (Ok No) h = tt
  simplified_yes (Err (Cert e)) h = tt
  simplified_yes (Err (Rejected reason)) h = tt
  simplified_yes (Err (RejectedBehindSteps reason)) h = tt
  simplified_yes (Err NoMemory) h = tt

  module _ (t : OpenedText) where
    abbrev pub ApartBehind : Type 0
    ApartBehind = (names : NameTable) (bytes : List ℕ) (before : Option (List Simplification)) → IsOpenedFor last names bytes before t → (c : Certificate)
        × IsCertificateText names bytes (behind before c) × IsPeakApart last c

    abbrev pub ApartBefore : Type 0
    ApartBefore = (names : NameTable) (bytes : List ℕ) → IsOpenedFor sys names bytes (Some steps) t → (c : Certificate) × IsCertificateText names bytes c × IsPeakApart sys c

    apart_so : ApartBehind → ApartBefore
    apart_so h names bytes o =
        let found = h names bytes (Some steps) (opened_for_last names bytes t o) in
        (simplified_certificate steps found.0, found.1, apart_before sys last steps found.0 good all found.2)

    pub simplified_no : (r : Result Verdict BytesError) → OnNo r ApartBehind → OnNo (of_body r) ApartBefore
    simplified_no (Ok Yes) h = tt
    simplified_no (Ok No) h = apart_so h
    simplified_no (Err (Cert e)) h = tt
    simplified_no (Err (Rejected reason)) h = tt
    simplified_no (Err (RejectedBehindSteps reason)) h = tt
    simplified_no (Err NoMemory) h = tt

-- ---- behind a step that fails

of_step : (sys : System) (steps : List Simplification) (r : Rejection) → IsStepRejected sys steps r → IsOfStep r
of_step sys steps r (n, why, fails, e) = subst IsOfStep (sym e) tt

pub step_answered : (sys : System) (names : NameTable) (bytes : List ℕ) (steps : List Simplification) (reason : reasons.Rejected) → IsStepRejected sys steps (rejected_view reason)
    → (c : Certificate) × IsCertificateText names bytes (simplified_certificate steps c) → BytesAnswers sys names bytes (Err (Rejected reason))
step_answered sys names bytes steps reason fails h = (simplified_certificate steps h.0, h.1, inl fails, inr (of_step sys steps (rejected_view reason) fails))

-- the text of a body, as the program has it
pub simplified_opened : (sys : System) (names : NameTable) (bytes : List ℕ) (t u w : OpenedText) (steps given : List Simp) → t ≡ behind_steps (map simp_view steps) u → w ≡ u → given ≡ steps
    → sys.arities ≡ map (λ s. s.1) names.symbols → IsOpenedAs names bytes t → IsOpenedFor sys names bytes (Some (map simp_view given)) w
simplified_opened sys names bytes t u w steps given shown same are named h = record {
  named = named;
  opened =
      subst (λ (l : List Simp). IsOpenedAs names bytes (behind_steps (map simp_view l) w)) (sym are)
      (subst (λ x. IsOpenedAs names bytes (behind_steps (map simp_view steps) x)) (sym same) (subst (IsOpenedAs names bytes) shown h));
}
