use Rattle.std.proofs.Common.{ap₂}
use Rattle.certificates.proofs.Unique.{derives_unique}
use Rattle.certificates.proofs.Outcomes.{never_both, fails_unique}
use Rattle.derivation.proofs.laws.outcomes_are_unique.Goals as goal

pub returns-clause-ends : goal.returns-clause-ends
returns-clause-ends c = derives_unique

pub returns-clause-not_both : goal.returns-clause-not_both
returns-clause-not_both c = λ sys hyps t d u bad h f. never_both sys hyps 1 t d u bad.path bad.reason h f

pub returns-clause-first : goal.returns-clause-first
returns-clause-first c =
    λ sys hyps t d bad other f g.
    let same = fails_unique sys hyps 1 t d bad.path other.path bad.reason other.reason f g in
    ap₂ (λ p r. record { path = p; reason = r }) same.path same.reason
