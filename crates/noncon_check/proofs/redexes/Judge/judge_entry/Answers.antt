use Rattle.std.proofs.Common.{◌≡◌, inl, inr, ap, suc, ◌+◌, arith}
use Rattle.certificates.specs.Reasons.{redex_fails}
use Rattle.cert_model.specs.ReasonView.{evidence_reason_view}
use Rattle.noncon_check.proofs.Rules.{entry_low}
use Rattle.noncon_check.proofs.redexes.Judge.judge_entry.Goals as goal

pub overflow_add-result : goal.overflow_add-result
overflow_add-result c = let low = entry_low c.args.self.now.entries.now c.args.at _ c.in-Some.ensures.0 in let few = c.requires.ready.few in omega (arith, low, few)

pub overflow_cast-result : goal.overflow_cast-result
overflow_cast-result c = let low = entry_low c.args.self.now.entries.now c.args.at _ c.in-Some.ensures.0 in let few = c.requires.ready.few in omega (arith, low, few)

pub overflow_add-result-in-Err-Reason : goal.overflow_add-result-in-Err-Reason
overflow_add-result-in-Err-Reason c = let low = entry_low c.args.self.now.entries.now c.args.at _ c.in-Some.ensures.0 in let few = c.requires.ready.few in omega (arith, low, few)

pub returns-in-Err-Reason : goal.returns-in-Err-Reason
returns-in-Err-Reason c =
    let one : c.args.at + 1 ≡ suc c.args.at = omega arith in
    inr (inl (
      evidence_reason_view c.in-Err-Reason.reason,
      record { entry = _; stands = c.in-Some.ensures.0; place = c.in-Some.ensures.1; judged = rw c.in-Err-Reason.field-0-is at c.in-Err-Reason.ensures },
      ap (λ n. redex_fails n (evidence_reason_view c.in-Err-Reason.reason)) one,
    ))
