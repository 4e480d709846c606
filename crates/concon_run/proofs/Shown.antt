-- A valid certificate that can be written shows what it is for, behind steps or without.
use Rattle.std.proofs.Common.{◌≡◌, ◌∙◌, List, map}
use Rattle.rewriting.specs.Prelude.{System, IsSystem, IsConfluent}
use Rattle.rewriting.proofs.Laws.{well_formed}
use Rattle.join_systems.specs.FileRelation.{IsFromFile}
use Rattle.join_systems.specs.Laws.{FilesAreConfluent}
use Rattle.certificates.specs.Certificates.{Simplification, Certificate, ortho_certificate, quasi_certificate, peak_certificate, simplified_certificate}
use Rattle.simplifications.specs.Simplifying.{AllSimplify}
use Rattle.simplifications.proofs.Systems.{steps_make}
use Rattle.valid_certificates.specs.Certificates.{IsValid}
use Rattle.valid_certificates.specs.CarriedBack.{IsPeakApart}
use Rattle.valid_certificates.specs.Laws.{ValidPeaksReachApart}
use Rattle.ortho_check.specs.Laws.{ValidSystemsAreConfluent}
use Rattle.quasi_check.specs.Laws.{ValidMeasuredSystemsAreConfluent}
use Rattle.cops_names.specs.NameTable.{NameTable}
use Rattle.cert_grammar.specs.CertificateText.{IsWithin}
use Rattle.search_spaces.specs.Texts.{HasText}
use Rattle.cert_check.specs.Kinds.{verdict_of}
use Rattle.cert_check.specs.declared.Verdict.{Verdict}
use Rattle.cert_check.specs.declared.Verdict.TheVariants.{Yes, No}
use Rattle.cert_check.proofs.Levels.{peak_apart, apart_before, confluent_before}
use Rattle.cert_check.proofs.Bounds.{spelt_over, same_symbols}
use Rattle.concon_run.specs.Verdicts.{IsShown}

-- the same of the system alone
abbrev IsShownAlone : System → Certificate → Verdict → Type 0
IsShownAlone sys c Yes = IsConfluent sys
IsShownAlone sys c No = IsPeakApart sys c

-- good steps carry it back
carried_back : (sys last : System) (steps : List Simplification) (c : Certificate) → IsSystem sys → AllSimplify sys steps last → (v : Verdict) → IsShownAlone last c v
    → IsShownAlone sys (simplified_certificate steps c) v
carried_back sys last steps c good all Yes h = confluent_before sys last steps good all h
carried_back sys last steps c good all No h = apart_before sys last steps c good all h

-- and a file is confluent where its system is
module _ (files : FilesAreConfluent) (sys : System) (from : IsFromFile sys) (c : Certificate) where
  of_file : (v : Verdict) → IsShownAlone sys c v → IsShown sys c v
  of_file Yes h = record { file = files sys from h; system = h }
  of_file No h = h

module _ (confluent : ValidSystemsAreConfluent) (measured : ValidMeasuredSystemsAreConfluent) (apart : ValidPeaksReachApart) (names : NameTable) where
  shown_alone : (sys : System) (c : Certificate) → IsSystem sys → sys.arities ≡ map (λ s. s.1) names.symbols → IsWithin names c → IsValid sys c → IsShownAlone sys c (verdict_of c)
  shown_alone sys (ortho_certificate pairs) good named h valid = confluent sys pairs (well_formed sys good) valid
  shown_alone sys (quasi_certificate measure pairs) good named h valid = measured sys measure pairs (well_formed sys good) valid
  shown_alone sys (peak_certificate peak) good named h valid =
      peak_apart sys peak (apart sys peak (well_formed sys good) (spelt_over names sys.arities named peak.start h.0) valid)
  shown_alone sys (simplified_certificate steps c) good named h (last, all, valid) =
      carried_back sys last steps c good all (verdict_of c)
      (shown_alone last c (steps_make sys last steps good all) (same_symbols sys last steps good all ∙ named) h.3 valid)

  pub shown : FilesAreConfluent → (sys : System) (c : Certificate) → IsSystem sys → sys.arities ≡ map (λ s. s.1) names.symbols → IsFromFile sys → HasText names c → IsValid sys c
      → IsShown sys c (verdict_of c)
  shown files sys c good named from text valid = of_file files sys from c (verdict_of c) (shown_alone sys c good named text.0.1 valid)
