use Rattle.std.proofs.Common.{◌+◌, Err, map, sym, subst}
use Rattle.rewriting.proofs.Laws.{well_formed}
use Rattle.simplifications.specs.Simplifying.{Simplifies, FailsAt}
use Rattle.simplifications.proofs.Levels.{keep_levels}
use Rattle.cert_model.specs.CertificateView.{simp_view}
use Rattle.cert_model.specs.ReasonView.{simp_reason_view}
use Rattle.simplify.specs.Answers.{StepAnswers}
use Rattle.simplify.proofs.Loop.{step_at, more_length, less_length, next_step, refused_step, at_end}
use Rattle.simplify.proofs.steps.simplify.Goals as goal

pub returns-in-Err-Refused-clause-answer : goal.returns-in-Err-Refused-clause-answer
returns-in-Err-Refused-clause-answer c =
    subst (λ z. FailsAt c.args.sys.now (map simp_view c.args.steps.now) (c.turns.i + 1) (simp_reason_view z)) (sym c.in-Err-Refused.reason-is)
    (refused_step c.args.sys.now c.turns.current (map simp_view c.args.steps.now) c.turns.i (simp_view c.index-steps-i.result) (more_length simp_view c.args.steps.now c.turns.i c.turns-test.true)
    (step_at simp_view c.args.steps.now c.turns.i c.index-steps-i.result c.turns-test.true c.index-steps-i.is) c.turns.invariant (simp_reason_view c.in-Err-Refused.reason)
    (subst (λ z. StepAnswers c.turns.current (simp_view c.index-steps-i.result) (Err z)) c.in-Err-Refused.field-0-is c.in-Err-Refused.ensures))

pub turns-preserved : goal.turns-preserved
turns-preserved c =
    next_step c.args.sys.now c.turns.current (map simp_view c.args.steps.now) c.turns.i (simp_view c.index-steps-i.result) (more_length simp_view c.args.steps.now c.turns.i c.turns-test.true)
    (step_at simp_view c.args.steps.now c.turns.i c.index-steps-i.result c.turns-test.true c.index-steps-i.is) c.turns.invariant c.changed-current.result
    (subst (Simplifies c.turns.current (simp_view c.index-steps-i.result)) (sym c.changed-current.ensures) (c.in-Ok-change_of.ensures).1)

pub returns-clause-levels : goal.returns-clause-levels
returns-clause-levels c =
    keep_levels c.args.sys.now c.turns.current (map simp_view c.args.steps.now) (well_formed c.args.sys.now c.copied.ensures.sound)
    (at_end c.args.sys.now c.turns.current (map simp_view c.args.steps.now) c.turns.i (less_length simp_view c.args.steps.now c.turns.i c.turns-test.false) c.turns.invariant)
