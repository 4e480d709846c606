-- What the test of the classes answers.
use Rattle.std.specs.Prelude.{◌≡◌, List, Result, Ok, Err}
use Rattle.rewriting.specs.Rules.{System, EachRule}
use Rattle.certificates.specs.Prelude.{PairEntry, Class, Blame, class_fails, IsInClass}
use Rattle.cert_model.specs.ReasonView.{rejected_view}
use Rattle.validity.specs.declared.CheckError.{CheckError}
use Rattle.validity.specs.declared.CheckError.TheVariants.{Rejected, NoMemory}
use Rattle.valid_certificates.specs.Confluence.{IsInOrthoClasses, IsBlameOf, IsOrthoRejected}

-- every rule is in the class, or the blame of the first that is not
abbrev pub ClassAnswers : System → Class → Result (Unit {0}) CheckError → Type 0
ClassAnswers sys class (Ok _) = EachRule sys (λ r. IsInClass sys class r)
ClassAnswers sys class (Err (Rejected reason)) = (blame : Blame) × (rejected_view reason ≡ class_fails blame) × IsBlameOf sys class blame
ClassAnswers sys class (Err NoMemory) = ⊥

-- the system is in the classes, or the certificate is rejected, whatever its entries
abbrev pub ClassesAnswer : System → Result (Unit {0}) CheckError → Type 0
ClassesAnswer sys (Ok _) = IsInOrthoClasses sys
ClassesAnswer sys (Err (Rejected reason)) = (es : List PairEntry) → IsOrthoRejected sys es (rejected_view reason)
ClassesAnswer sys (Err NoMemory) = ⊥
