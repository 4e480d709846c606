-- A certificate of a text can be judged behind steps.
use Rattle.std.proofs.Common.{◌≡◌, List, map, subst, sym, ◌∙◌}
use Rattle.rewriting.specs.Prelude.{System, IsSystem}
use Rattle.certificates.specs.Certificates.{Simplification, Certificate, simplified_certificate}
use Rattle.simplifications.proofs.Systems.{steps_make}
use Rattle.cops_names.specs.NameTable.{NameTable}
use Rattle.cert_grammar.specs.CertificateText.{IsWithin}
use Rattle.cert_check.specs.Kinds.{CanBeJudged}
use Rattle.cert_check.proofs.Bounds.{same_symbols, within_can_be_judged}

pub judged_behind : (sys : System) (names : NameTable) (outer inner : List Simplification) (body : Certificate) → IsSystem sys → sys.arities ≡ map (λ s. s.1) names.symbols
    → IsWithin names body → (within c : Certificate) → within ≡ simplified_certificate inner body → c ≡ simplified_certificate outer within → CanBeJudged sys c
judged_behind sys names outer inner body good named spelt within c e f =
    subst (CanBeJudged sys) (sym f) (λ mid first. subst (CanBeJudged mid) (sym e) (λ last second.
    let between = steps_make sys mid outer good first in
    within_can_be_judged last names body (steps_make mid last inner between second)
    (same_symbols mid last inner between second ∙ (same_symbols sys mid outer good first ∙ named)) spelt))
