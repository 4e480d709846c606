-- What `why_not` answers.
use Rattle.std.specs.Prelude.{◌≡◌, Option, None, Some}
use Rattle.rewriting.specs.Rules.{System, EachRule}
use Rattle.certificates.specs.Reasons as reasons
use Rattle.cert_model.specs.declared.reasons.Blame.{Blame}
use Rattle.cert_model.specs.ReasonView.{blame_view}
use Rattle.certificates.specs.Blames.{IsInClass, IsBlamed}

-- every rule is in the class, or the first that is not
abbrev pub WhyNotAnswers : System → reasons.Class → Option Blame → Type 0
WhyNotAnswers sys class None = EachRule sys (λ r. IsInClass sys class r)
WhyNotAnswers sys class (Some blame) = ((blame_view blame).class ≡ class) × IsBlamed sys (blame_view blame)
