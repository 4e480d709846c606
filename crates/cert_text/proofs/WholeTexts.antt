-- A text that is read to its end, from its opening on.
use Rattle.cert_text.proofs.Prelude.{◌≤◌, ℕ, List, length, PairEntry, Certificate, NameTable, IsCertificateText, Opening}
use Rattle.cert_text.proofs.Prelude.{ortho_opening, quasi_opening, simplified_opening, certificate_for, CertError, IsRefusedAs, OpenedText, at_entries, whole, IsOpenedAs}
use Rattle.cert_grammar.specs.CertificateText.{IsWithin}
use Rattle.cert_text.specs.OpenedText.{IsAtFirst, IsReadWhole, IsToldOf}
use Rattle.cert_words.specs.declared.error.CertError.TheVariants.{NoMemory}

pub few_entries : (names : NameTable) (o : Opening) (es : List PairEntry) → IsWithin names (certificate_for o es) → length es ≤ 20000
few_entries names ortho_opening es h = h.0
few_entries names (quasi_opening m) es h = h.1
few_entries names (simplified_opening ss o) es h = few_entries names o es h.3

module _ (names : NameTable) (bytes : List ℕ) where
  pub at_first : (t : OpenedText) → IsOpenedAs names bytes t → IsAtFirst t
  at_first (at_entries o r) h = (o, rw (h.0, h.1) h.2.read)
  at_first (whole c) h = tt

  pub read_whole : (t : OpenedText) (c : Certificate) → IsOpenedAs names bytes t → IsReadWhole t c → IsCertificateText names bytes c
  read_whole (at_entries o r) c h w = rw w.1 (rw (h.0, h.1) at (w.2 o (rw (h.0, h.1) h.2.read)))
  read_whole (whole d) c h w = rw w h

  pub told_of : (t : OpenedText) (e : CertError) → IsOpenedAs names bytes t → IsToldOf t e → IsRefusedAs names bytes e
  told_of (at_entries o r) e h w = rw (h.0, h.1) at w
  told_of (whole d) NoMemory h w = tt
  told_of (whole d) _ h w = absurd cc
