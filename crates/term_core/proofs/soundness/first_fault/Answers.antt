use Rattle.std.proofs.Common.{◌≡◌, sym, subst, IsErrAnd}
use Rattle.term_core.specs.SystemView.{FirstAt, FirstFaultAnswers}
use Rattle.term_core.proofs.Rules.{first_at, handed_on}
use Rattle.term_core.proofs.soundness.first_fault.Goals as goal

pub returns-in_err-check_rule : goal.returns-in_err-check_rule
returns-in_err-check_rule c =
    let a = c.args.arities.now in
    let rs = c.args.rules.now in
    let rule = c.index-rules-i.result in
    let fault = c.in_err-check_rule.field-0.0 in
    let same : IsErrAnd c.from_residual.result (λ e. e ≡ fault) = c.from_residual.ensures.1 in
    let why = c.in_err-check_rule.ensures {u = tt} in
    let first = first_at a rs c.loop-i.i rule c.loop-i-test.true c.index-rules-i.is c.loop-i.invariant in
    subst (FirstFaultAnswers a rs) (sym (handed_on c.from_residual.result fault same)) (rule, subst (λ n. FirstAt a rs n rule) (sym why.0) first, why.1)
