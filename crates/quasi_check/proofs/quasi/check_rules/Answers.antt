use Rattle.std.proofs.Common.{subst}
use Rattle.rewriting.specs.Classes.{IsDeterministic}
use Rattle.certificates.specs.Reasons.{deterministic}
use Rattle.valid_certificates.specs.Confluence.{IsBlameOf}
use Rattle.cert_model.specs.ReasonView.{blame_view}
use Rattle.quasi_check.specs.Parts.{class_is_left, side_reduces}
use Rattle.quasi_check.proofs.Walks.{side_found}
use Rattle.quasi_check.proofs.quasi.check_rules.Goals as goal

pub returns-in-Some : goal.returns-in-Some
returns-in-Some c = class_is_left (blame_view c.in-Some.blame) (subst (λ s. IsBlameOf s deterministic (blame_view c.in-Some.blame)) c.system.ensures
    (record { names = c.in-Some.ensures.0; blamed = c.in-Some.ensures.1 }))

pub returns-in-Some-2 : goal.returns-in-Some-2
returns-in-Some-2 c =
    side_reduces c.in-Some-2.place.rule c.in-Some-2.place.cond (subst IsDeterministic c.system.ensures c.in_default.ensures)
    (side_found c.args.sys.now c.in_ok-place.field-0 c.in-Some-2.place c.in_ok-place.ensures c.in-Some-2.is)
