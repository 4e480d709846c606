use Rattle.std.proofs.Common.{Err, sym, subst}
use Rattle.interpretations.specs.Judgement.{good}
use Rattle.term_core.proofs.Rules.{handed_on}
use Rattle.quasi_check.specs.Parts.{MeasureAnswers}
use Rattle.quasi_check.specs.Runs.{StartAnswers}
use Rattle.quasi_check.proofs.Answers.{rules_rejected, measure_rejected, pairs_started}
use Rattle.quasi_check.proofs.run.start_pairs.Goals as goal

pub returns-in_err-check_rules : goal.returns-in_err-check_rules
returns-in_err-check_rules g c =
    let Is = g.M.Measure.judged c.args.measure.now c.args.sys.now in
    subst (StartAnswers Is c.args.sys.now) (sym (handed_on _ _ c.from_residual.ensures.1)) (rules_rejected Is c.args.sys.now c.in_err-check_rules.field-0.0 c.in_err-check_rules.ensures)

pub returns-in_err-check_measure : goal.returns-in_err-check_measure
returns-in_err-check_measure g c =
    let Is = g.M.Measure.judged c.args.measure.now c.args.sys.now in
    subst (StartAnswers Is c.args.sys.now) (sym (handed_on _ _ c.from_residual-in_err-check_measure.ensures.1))
    (measure_rejected Is c.args.sys.now c.in_err-check_measure.field-0.0 c.in_ok-check_rules.ensures
    (subst (λ s. MeasureAnswers (g.M.Measure.judged c.args.measure.now s) (Err c.in_err-check_measure.field-0.0)) c.system.ensures c.in_err-check_measure.ensures))

pub returns : goal.returns
returns g c = pairs_started (g.M.Measure.judged c.args.measure.now c.args.sys.now) c.args.sys.now c.start.result c.in_ok-check_rules.ensures
    (subst (λ s. g.M.Measure.judged c.args.measure.now s good) c.system.ensures c.in_ok-check_measure.ensures) c.start.ensures
