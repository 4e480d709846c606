use Rattle.std.proofs.Common.{◌≡◌, []}
use Rattle.term_core.specs.View.{view}
use Rattle.derivation.specs.Judged.{IsCounted, IsContracted, HasNoContractum, IsInstance, HasNoInstance}
use Rattle.derivation.proofs.Judging.{judged_passed}
use Rattle.derivation.proofs.Contracting.{none_from_instance}
use Rattle.derivation.proofs.steps.contracted.Goals as goal

pub returns-in_err-part : goal.returns-in_err-part
returns-in_err-part c =
    let right = view c.args.right.now in
    let t = view c.args.t.term in
    judged_passed (λ u. IsInstance c.args.values right (view u)) (λ path reason. (path ≡ []) × HasNoInstance c.args.values right reason)
    (λ u. IsContracted right c.args.values t c.args.p.now (view u.term) × IsCounted u) (λ path reason. (path ≡ []) × HasNoContractum right c.args.values t c.args.p.now reason)
    c.from_residual.result c.in_err-part.field-0.0 c.from_residual.ensures.0 c.from_residual.ensures.1
    (none_from_instance right c.args.values t c.args.p.now) c.in_err-part.ensures
