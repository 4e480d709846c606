-- The texts of a file and of a certificate come to one outcome.
use Rattle.std.proofs.Common.{◌≡◌, ◌≤◌, ℕ, List, length, Option, Some, refl, sym, ap, ap₂, ◌∙◌, subst, subst₂, arith}
use Rattle.rewriting.specs.Rules.{System}
use Rattle.certificates.specs.Prelude.{Certificate, Rejection}
use Rattle.valid_certificates.specs.Certificates.{IsRejected, IsValid}
use Rattle.valid_certificates.specs.Laws.{CertificatesHaveOneAnswer}
use Rattle.cert_check.specs.Kinds.{verdict_of}
use Rattle.cops_names.specs.NameTable.{NameTable}
use Rattle.cert_grammar.specs.CertificateText.{IsCertificateText}
use Rattle.cert_sharing.specs.SharedLaws as texts
use Rattle.cert_sharing.proofs.OneCertificate.{one_certificate}
use Rattle.run_parts.specs.Bytes.{most_cert_bytes, told_or_any, SpellsCertificate}
use Rattle.concon_run.specs.CertRefusals.{CertRefusal, long_certificate, no_certificate_text, IsCertRefused}
use Rattle.concon_run.specs.Check.{names_judged, CheckOutcome, no_system, no_certificate, rejected, shown, IsRefusedCertificate, ComesTo}
use Rattle.concon_run.proofs.OneSystem.{KnownSystems, Told, same_bytes, one_pair, spells_or_none, none_or_spells, one_refused}

-- what is known of the texts of certificates, and of certificates
pub record KnownCertificates : Type 0 where
  pub once : texts.OneRefusal
  pub never : texts.NeverBoth
  pub answers : CertificatesHaveOneAnswer

module _ (systems : KnownSystems) (k : KnownCertificates) (file cert : Option (List ℕ)) where
  cert_bytes : (a b : List ℕ) (names : NameTable) (c : Certificate) → cert ≡ Some a → told_or_any cert b → IsCertificateText names b c → IsCertificateText names a c
  cert_bytes a b names c e h f = subst (λ x. IsCertificateText names x c) (same_bytes cert a b e h) f

  -- what two certificates of one text have in common
  one_text : (names others : NameTable) (c d : Certificate) → names ≡ others → SpellsCertificate (Told cert) names c → SpellsCertificate (told_or_any cert) others d → c ≡ d
  one_text names others c d e x y =
      one_certificate names x.0 c d x.3 (cert_bytes x.0 y.0 names d x.1 y.1 (subst (λ n. IsCertificateText n y.0 d) (sym e) y.3))

  -- the text of a certificate is not refused
  text_or_refused : (names : NameTable) (bytes : List ℕ) (c : Certificate) (r : CertRefusal) → length bytes ≤ most_cert_bytes → IsCertificateText names bytes c → IsCertRefused names bytes r → ⊥
  text_or_refused names bytes c long_certificate short f h = absurd (omega arith)
  text_or_refused names bytes c (no_certificate_text cause at) short f h = k.never names bytes c cause at f h.1

  refused_once : (names : NameTable) (bytes : List ℕ) (r s : CertRefusal) → IsCertRefused names bytes r → IsCertRefused names bytes s → r ≡ s
  refused_once names bytes long_certificate long_certificate h g = refl
  refused_once names bytes long_certificate (no_certificate_text d to) h g = absurd (omega (arith, g.0))
  refused_once names bytes (no_certificate_text e at) long_certificate h g = absurd (omega (arith, h.0))
  refused_once names bytes (no_certificate_text e at) (no_certificate_text d to) h g = let same = k.once names bytes e d at to h.1 g.1 in ap₂ no_certificate_text same.0 same.1

  text_or_none : (names others : NameTable) (c : Certificate) (r : CertRefusal) → names ≡ others → SpellsCertificate (Told cert) names c → IsRefusedCertificate (told_or_any cert) others r → ⊥
  text_or_none names others c r e x y =
      text_or_refused names x.0 c r x.2 x.3 (subst₂ (λ n b. IsCertRefused n b r) (sym e) (same_bytes cert x.0 y.0 x.1 y.1) y.2)

  none_or_text : (names others : NameTable) (c : Certificate) (r : CertRefusal) → names ≡ others → IsRefusedCertificate (Told cert) names r → SpellsCertificate (told_or_any cert) others c → ⊥
  none_or_text names others c r e x y =
      text_or_refused others y.0 c r y.2 y.3 (subst₂ (λ n b. IsCertRefused n b r) e (sym (same_bytes cert x.0 y.0 x.1 y.1)) x.2)

  one_cert_refused : (names others : NameTable) (r s : CertRefusal) → names ≡ others → IsRefusedCertificate (Told cert) names r → IsRefusedCertificate (told_or_any cert) others s → r ≡ s
  one_cert_refused names others r s e x y =
      refused_once names x.0 r s x.2 (subst₂ (λ n b. IsCertRefused n b s) (sym e) (same_bytes cert x.0 y.0 x.1 y.1) y.2)

  same_rejection : (names others : NameTable) (judged given : Option NameTable) (reason other : Rejection) (sys third : System) (c d : Certificate)
      → names ≡ others → sys ≡ third → c ≡ d → IsRejected sys c reason × (judged ≡ names_judged names c reason) → IsRejected third d other × (given ≡ names_judged others d other)
      → rejected judged reason ≡ rejected given other
  same_rejection names others judged given reason other sys third c d e f g x y =
      let same = (k.answers third d).one_reason reason other (subst₂ (λ s p. IsRejected s p reason) f g x.0) y.0 in
      ap₂ rejected (x.1 ∙ (ap₂ (λ n p. names_judged n p reason) e g ∙ (ap (names_judged others d) same ∙ sym y.1))) same

  pub one_outcome : (o p : CheckOutcome) → ComesTo (Told file) (Told cert) o → ComesTo (told_or_any file) (told_or_any cert) p → o ≡ p
  one_outcome (no_system r) (no_system s) x y = ap no_system (one_refused systems file r s x y)
  one_outcome (no_system r) (no_certificate s) x y = absurd (none_or_spells systems file y.0 y.1 r x y.2)
  one_outcome (no_system r) (rejected given other) x y = absurd (none_or_spells systems file y.0 y.1 r x y.3)
  one_outcome (no_system r) (shown w) x y = absurd (none_or_spells systems file y.0 y.1 r x y.3)
  one_outcome (no_certificate r) (no_system s) x y = absurd (spells_or_none systems file x.0 x.1 s x.2 y)
  one_outcome (no_certificate r) (no_certificate s) x y =
      let same = one_pair systems file x.0 y.0 x.1 y.1 x.2 y.2 in ap no_certificate (one_cert_refused x.1 y.1 r s same.1 x.3 y.3)
  one_outcome (no_certificate r) (rejected given other) x y =
      let same = one_pair systems file x.0 y.0 x.1 y.1 x.2 y.3 in absurd (none_or_text x.1 y.1 y.2 r same.1 x.3 y.4)
  one_outcome (no_certificate r) (shown w) x y =
      let same = one_pair systems file x.0 y.0 x.1 y.1 x.2 y.3 in absurd (none_or_text x.1 y.1 y.2 r same.1 x.3 y.4)
  one_outcome (rejected judged reason) (no_system s) x y = absurd (spells_or_none systems file x.0 x.1 s x.3 y)
  one_outcome (rejected judged reason) (no_certificate s) x y =
      let same = one_pair systems file x.0 y.0 x.1 y.1 x.3 y.2 in absurd (text_or_none x.1 y.1 x.2 s same.1 x.4 y.3)
  one_outcome (rejected judged reason) (rejected given other) x y =
      let same = one_pair systems file x.0 y.0 x.1 y.1 x.3 y.3 in
      same_rejection x.1 y.1 judged given reason other x.0 y.0 x.2 y.2 same.1 same.0 (one_text x.1 y.1 x.2 y.2 same.1 x.4 y.4) (x.5, x.6) (y.5, y.6)
  one_outcome (rejected judged reason) (shown w) x y =
      let same = one_pair systems file x.0 y.0 x.1 y.1 x.3 y.3 in
      let certs = one_text x.1 y.1 x.2 y.2 same.1 x.4 y.4 in
      absurd ((k.answers y.0 y.2).never_both reason (subst₂ (λ s p. IsRejected s p reason) same.0 certs x.5) y.5)
  one_outcome (shown v) (no_system s) x y = absurd (spells_or_none systems file x.0 x.1 s x.3 y)
  one_outcome (shown v) (no_certificate s) x y =
      let same = one_pair systems file x.0 y.0 x.1 y.1 x.3 y.2 in absurd (text_or_none x.1 y.1 x.2 s same.1 x.4 y.3)
  one_outcome (shown v) (rejected given other) x y =
      let same = one_pair systems file x.0 y.0 x.1 y.1 x.3 y.3 in
      let certs = one_text x.1 y.1 x.2 y.2 same.1 x.4 y.4 in
      absurd ((k.answers y.0 y.2).never_both other y.5 (subst₂ IsValid same.0 certs x.5))
  one_outcome (shown v) (shown w) x y =
      let same = one_pair systems file x.0 y.0 x.1 y.1 x.3 y.3 in
      ap shown (x.6 ∙ (ap verdict_of (one_text x.1 y.1 x.2 y.2 same.1 x.4 y.4) ∙ sym y.6))
