-- The answer to a certificate's text, from those to its parts.
use Rattle.std.proofs.Common.{◌≡◌, ℕ, List, [], map, Option, None, Some, Result, Ok, Err, refl, sym, subst}
use Rattle.rewriting.specs.Rules.{System}
use Rattle.certificates.specs.Certificates.{PairEntry, MeasureCertificate, Simplification, Peak, Certificate, peak_certificate}
use Rattle.valid_certificates.specs.Certificates.{IsMeasureJudged, IsValid, IsRejected}
use Rattle.valid_certificates.specs.CarriedBack.{IsPeakApart}
use Rattle.tallies.specs.Tally.{Tally, IsQuasiTally}
use Rattle.cops_names.specs.NameTable.{NameTable}
use Rattle.cert_model.specs.ReasonView.{rejected_view}
use Rattle.cert_model.specs.declared.reasons.Rejected as reasons
use Rattle.cert_grammar.specs.Prelude.{IsUnsimplified, IsCertificateText}
use Rattle.cert_sharing.specs.SharedLaws.{NeverBoth}
use Rattle.cert_words.specs.CertRefusals.{IsRefusedAs}
use Rattle.cert_words.specs.declared.error.CertError.{CertError}
use Rattle.cert_words.specs.declared.error.CertError.TheVariants as refused
use Rattle.cert_openings.specs.Openings.{Opening, certificate_for}
use Rattle.cert_text.specs.Reading.{Reading, HasRead}
use Rattle.cert_text.specs.Front.{opening_behind, opened_behind}
use Rattle.cert_text.specs.OpenedText.{OpenedText, at_entries, whole, IsOpenedAs}
use Rattle.cert_check.specs.Kinds.{CanPeakBeJudged}
use Rattle.cert_check.specs.Answers.{OnYes, OnNo}
use Rattle.cert_check.specs.BytesErrors.{error_of_text}
use Rattle.cert_check.specs.Bytes.{IsTold, BytesAnswers, behind, IsOpenedFor, BodyAnswers, EntriesAnswer, PeakAnswers, RestAnswers, WholeAnswers, IsNoRefusal}
use Rattle.cert_check.specs.declared.Verdict.{Verdict}
use Rattle.cert_check.specs.declared.Verdict.TheVariants.{Yes, No}
use Rattle.cert_check.specs.declared.bytes.BytesError.{BytesError}
use Rattle.cert_check.specs.declared.bytes.BytesError.TheVariants.{Cert, Rejected, RejectedBehindSteps, NoMemory}
use Rattle.cert_check.proofs.Bounds.{peak_can_be_judged}

-- what holds of another name of the system and of the certificate
pub valid_there : (sys other : System) (c d : Certificate) → other ≡ sys → d ≡ c → IsValid other d → IsValid sys c
valid_there sys other c d s e h = subst (λ x. IsValid x c) s (subst (IsValid other) e h)

pub rejected_there : (sys other : System) (c d : Certificate) (reason : reasons.Rejected) → other ≡ sys → d ≡ c → IsRejected other d (rejected_view reason) → IsRejected sys c (rejected_view reason)
rejected_there sys other c d reason s e h =
    subst (λ x. IsRejected x c (rejected_view reason)) s (subst (λ x. IsRejected other x (rejected_view reason)) e h)

-- so of a tally
pub tally_there : (sys other : System) (m n : MeasureCertificate) (es : List PairEntry) (t : Tally) → other ≡ sys → n ≡ m → IsQuasiTally (IsMeasureJudged other n) other es t
    → IsQuasiTally (IsMeasureJudged sys m) sys es t
tally_there sys other m n es t s e h =
    subst (λ x. IsQuasiTally (IsMeasureJudged x m) x es t) s (subst (λ x. IsQuasiTally (IsMeasureJudged other x) other es t) e h)

-- the reason for which the text's certificate is rejected is the answer
pub rejected_answer : (sys : System) (names : NameTable) (bytes : List ℕ) (o own : Opening) (es : List PairEntry) (reason : reasons.Rejected) (r : Result Verdict BytesError)
    → r ≡ Err (Rejected reason) → IsCertificateText names bytes (certificate_for o es) → IsRejected sys (certificate_for own es) (rejected_view reason) → EntriesAnswer sys names bytes o own r
rejected_answer sys names bytes o own es reason r is text rejected = subst (EntriesAnswer sys names bytes o own) (sym is) (es, text, rejected)

-- so is the refusal of the text
refused_so : (sys : System) (names : NameTable) (bytes : List ℕ) (o own : Opening) (e : CertError) → IsRefusedAs names bytes e → EntriesAnswer sys names bytes o own (Err (error_of_text e))
refused_so sys names bytes o own refused.NoMemory h = tt
refused_so sys names bytes o own _ h = (λ k. cc, h)

pub refused_there : (names : NameTable) (bytes : List ℕ) (r : Reading) → r.names ≡ names → r.bytes ≡ bytes → (e : CertError) → IsRefusedAs r.names r.bytes e → IsRefusedAs names bytes e
refused_there names bytes r n b e h = subst (λ x. IsRefusedAs x bytes e) n (subst (λ x. IsRefusedAs r.names x e) b h)

pub refused_answer : (sys : System) (names : NameTable) (bytes : List ℕ) (o own : Opening) (r : Reading) → r.names ≡ names → r.bytes ≡ bytes → (e : CertError) → IsRefusedAs r.names r.bytes e
    → (answer : Result Verdict BytesError) → answer ≡ Err (error_of_text e) → EntriesAnswer sys names bytes o own answer
refused_answer sys names bytes o own r n b e h answer is = subst (EntriesAnswer sys names bytes o own) (sym is) (refused_so sys names bytes o own e (refused_there names bytes r n b e h))

-- ---- no text is refused that has a certificate

told_never : NeverBoth → (names : NameTable) (bytes : List ℕ) (c : Certificate) → IsCertificateText names bytes c → (e : CertError) → IsTold names bytes e → ⊥
told_never never names bytes c text refused.NoMemory h = h.0 refl
told_never never names bytes c text _ h = never names bytes c _ _ text h.1

pub exact_refusal : NeverBoth → (sys : System) (names : NameTable) (bytes : List ℕ) (r : Result Verdict BytesError) → BytesAnswers sys names bytes r
    → (c : Certificate) → IsCertificateText names bytes c → IsNoRefusal r
exact_refusal never sys names bytes (Err (Cert e)) h c text = told_never never names bytes c text e h
exact_refusal never sys names bytes _ h c text = tt

-- ---- a body at its entries

certificate_behind : (before : Option (List Simplification)) (own : Opening) (es : List PairEntry) → certificate_for (opening_behind before own) es ≡ behind before (certificate_for own es)
certificate_behind None own es = refl
certificate_behind (Some steps) own es = refl

module _ (names : NameTable) (bytes : List ℕ) (before : Option (List Simplification)) (own : Opening) (r : Reading) (t : OpenedText) (shown : t ≡ at_entries own r)
    (opened : IsOpenedAs names bytes (opened_behind before t)) where
  stands : (b : Option (List Simplification)) → IsOpenedAs names bytes (opened_behind b (at_entries own r)) → IsOpenedAs names bytes (at_entries (opening_behind b own) r)
  stands None h = h
  stands (Some steps) h = h

  here : IsOpenedAs names bytes (at_entries (opening_behind before own) r)
  here = stands before (subst (λ x. IsOpenedAs names bytes (opened_behind before x)) shown opened)

  -- its opening is read
  pub read_so : (o : Opening) × HasRead r o []
  read_so = (
    opening_behind before own,
    subst (λ n. HasRead (record { names = n; bytes = r.bytes; place = r.place }) (opening_behind before own) []) (sym here.0)
        (subst (λ b. HasRead (record { names = names; bytes = b; place = r.place }) (opening_behind before own) []) (sym here.1) here.2.read),
  )

  text_so : (es : List PairEntry) → IsCertificateText r.names r.bytes (certificate_for (opening_behind before own) es) → IsCertificateText names bytes (behind before (certificate_for own es))
  text_so es h =
      subst (IsCertificateText names bytes) (certificate_behind before own es)
      (subst (λ n. IsCertificateText n bytes (certificate_for (opening_behind before own) es)) here.0
      (subst (λ b. IsCertificateText r.names b (certificate_for (opening_behind before own) es)) here.1 h))

  told_so : (e : CertError) → IsRefusedAs r.names r.bytes e → IsRefusedAs names bytes e
  told_so e h = subst (λ n. IsRefusedAs n bytes e) here.0 (subst (λ b. IsRefusedAs r.names b e) here.1 h)

  -- and what is answered to its entries is the answer to the body
  module _ (sys : System) (plain : (es : List PairEntry) → IsUnsimplified (certificate_for own es)) where
    of_entries : (e : Result Verdict BytesError) → EntriesAnswer sys r.names r.bytes (opening_behind before own) own e → BodyAnswers sys names bytes before e
    of_entries (Ok v) h = (certificate_for own h.0, text_so h.0 h.1, h.2, h.3)
    of_entries (Err (Cert e)) h = (h.0, told_so e h.1)
    of_entries (Err (Rejected reason)) h = (certificate_for own h.0, text_so h.0 h.1, h.2, plain h.0)
    of_entries (Err (RejectedBehindSteps reason)) h = absurd h
    of_entries (Err NoMemory) h = tt

    pub body_answered : (e : Result Verdict BytesError) → ((o : Opening) → HasRead r o [] → EntriesAnswer sys r.names r.bytes o own e) → BodyAnswers sys names bytes before e
    unfolding read_so
    body_answered e h = of_entries e (h read_so.0 read_so.1)

  rest_so : (e : Result (Unit {0}) CertError) → RestAnswers r.names r.bytes (opening_behind before own) e → WholeAnswers names bytes before e
  rest_so (Ok _) h = (certificate_for own h.0, text_so h.0 h.1)
  rest_so (Err e) h = told_so e h

  pub rest_answered : (e : Result (Unit {0}) CertError) → ((o : Opening) → HasRead r o [] → RestAnswers r.names r.bytes o e) → WholeAnswers names bytes before e
  unfolding read_so
  rest_answered e h = rest_so e (h read_so.0 read_so.1)

-- an answer that shows nothing but confluence
pub never_no : (A : Type 0) (e : Result Verdict BytesError) → OnNo e ⊥ → OnNo e A
never_no A (Ok Yes) h = tt
never_no A (Ok No) h = absurd h
never_no A (Err e) h = tt

-- or nothing but a peak
pub never_yes : (A : Type 0) (e : Result Verdict BytesError) → OnYes e ⊥ → OnYes e A
never_yes A (Ok Yes) h = absurd h
never_yes A (Ok No) h = tt
never_yes A (Err e) h = tt

pub so_no : (A B : Type 0) (e : Result Verdict BytesError) → (A → B) → OnNo e A → OnNo e B
so_no A B (Ok Yes) f h = tt
so_no A B (Ok No) f h = f h
so_no A B (Err e) f h = tt

-- ---- a whole peak

module _ (names : NameTable) (bytes : List ℕ) (before : Option (List Simplification)) (peak : Peak) (t : OpenedText) (shown : t ≡ whole (peak_certificate peak))
    (opened : IsOpenedAs names bytes (opened_behind before t)) where
  whole_text : (b : Option (List Simplification)) → IsOpenedAs names bytes (opened_behind b (whole (peak_certificate peak))) → IsCertificateText names bytes (behind b (peak_certificate peak))
  whole_text None h = h
  whole_text (Some steps) h = h

  pub peak_text : IsCertificateText names bytes (behind before (peak_certificate peak))
  peak_text = whole_text before (subst (λ x. IsOpenedAs names bytes (opened_behind before x)) shown opened)

  -- it may be judged
  pub peak_judged : (sys : System) → sys.arities ≡ map (λ s. s.1) names.symbols → CanPeakBeJudged sys peak
  peak_judged sys same = by before peak_text
    where
      by : (b : Option (List Simplification)) → IsCertificateText names bytes (behind b (peak_certificate peak)) → CanPeakBeJudged sys peak
      by None h = peak_can_be_judged sys names peak same h.1.spelt.1
      by (Some steps) h = peak_can_be_judged sys names peak same h.1.spelt.1.3

  -- and what is answered to it is the answer to the body
  pub peak_answered : (sys : System) (e : Result Verdict BytesError) → PeakAnswers sys peak e → BodyAnswers sys names bytes before e
  peak_answered sys (Ok v) h = (peak_certificate peak, peak_text, h.1, h.0)
  peak_answered sys (Err (Cert e)) h = absurd h
  peak_answered sys (Err (Rejected reason)) h = (peak_certificate peak, peak_text, h, tt)
  peak_answered sys (Err (RejectedBehindSteps reason)) h = absurd h
  peak_answered sys (Err NoMemory) h = tt

-- what it shows
pub peak_shows : (sys : System) (peak : Peak) (t : OpenedText) → t ≡ whole (peak_certificate peak) → (e : Result Verdict BytesError) → OnNo e (IsPeakApart sys (peak_certificate peak))
    → OnNo e ((names : NameTable) (bytes : List ℕ) (before : Option (List Simplification)) → IsOpenedFor sys names bytes before t → (c : Certificate)
    × IsCertificateText names bytes (behind before c) × IsPeakApart sys c)
peak_shows sys peak t shown e = so_no _ _ e (λ apart names bytes before h. (peak_certificate peak, peak_text names bytes before peak t shown h.opened, apart))
