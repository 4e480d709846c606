use Rattle.std.proofs.Common.{◌≡◌, Some, map, sym, subst}
use Rattle.certificates.specs.Judging.{hypothesis_at}
use Rattle.term_core.specs.Prelude.{view, condition_view}
use Rattle.term_core.proofs.Rules.{handed_on}
use Rattle.cert_model.specs.DerivationView.{derivation_view}
use Rattle.critical_pairs.specs.View.{overlap_view}
use Rattle.refuter.specs.Answers.{RefutesAnswers}
use Rattle.valid_certificates.specs.PairEvidence.{IsUnfeasibleJudged}
use Rattle.certificates.proofs.Sizes.{hypothesis_fits}
use Rattle.pair_check.proofs.Judging.{first_fails, second_fails, unfeasible_judged}
use Rattle.pair_check.proofs.derived.judge_unfeasible.Goals as goal
use Rattle.pair_check.proofs.derived.judge_unfeasible.Goals.{In-Some}

there : (c : In-Some) → hypothesis_at (map condition_view c.args.overlap.now.conds.items) c.args.number ≡ Some (condition_view c.in-Some.cond.now)
there c = subst (λ cs. hypothesis_at (map condition_view cs) c.args.number ≡ Some (condition_view c.in-Some.cond.now)) c.deref.ensures.value (sym c.in-Some.ensures)

pub end_of-requires-clause-start : goal.end_of-requires-clause-start
end_of-requires-clause-start c =
    let at = there (goal.at.end_of-requires-clause-start c).In-Some in
    (hypothesis_fits (map condition_view c.args.overlap.now.conds.items) c.args.number (condition_view c.in-Some.cond.now) at c.requires.fit).0

pub returns-in_err-one : goal.returns-in_err-one
returns-in_err-one c =
    subst (RefutesAnswers (IsUnfeasibleJudged c.args.sys.now (overlap_view c.args.overlap.now) c.args.number (derivation_view c.args.first.now)
    (derivation_view c.args.second.now))) (sym (handed_on _ _ c.from_residual.ensures.1))
    (first_fails c.args.sys.now (overlap_view c.args.overlap.now) c.args.number (condition_view c.in-Some.cond.now) (there (goal.at.returns-in_err-one c).In-Some)
    (derivation_view c.args.first.now) (derivation_view c.args.second.now) c.in_err-one.field-0.0 c.in_err-one.ensures)

pub end_of-requires-2-clause-start : goal.end_of-requires-2-clause-start
end_of-requires-2-clause-start c =
    let at = there (goal.at.end_of-requires-2-clause-start c).In-Some in
    (hypothesis_fits (map condition_view c.args.overlap.now.conds.items) c.args.number (condition_view c.in-Some.cond.now) at c.requires.fit).0

pub returns-in_err-other : goal.returns-in_err-other
returns-in_err-other c =
    subst (RefutesAnswers (IsUnfeasibleJudged c.args.sys.now (overlap_view c.args.overlap.now) c.args.number (derivation_view c.args.first.now)
    (derivation_view c.args.second.now))) (sym (handed_on _ _ c.from_residual-in_err-other.ensures.1))
    (second_fails c.args.sys.now (overlap_view c.args.overlap.now) c.args.number (condition_view c.in-Some.cond.now) (there (goal.at.returns-in_err-other c).In-Some)
    (derivation_view c.args.first.now) (derivation_view c.args.second.now) (view c.in_ok-one.one) c.in_ok-one.ensures.derived c.in_err-other.field-0.0 c.in_err-other.ensures)

pub returns : goal.returns
returns c =
    unfeasible_judged c.args.sys.now (overlap_view c.args.overlap.now) c.args.number (derivation_view c.args.first.now) (derivation_view c.args.second.now)
    (view c.in_ok-one.one) (view c.in_ok-other.other)
    (record {
      condition = condition_view c.in-Some.cond.now;
      is_condition = there (goal.at.returns c).In-Some;
      first = c.in_ok-one.ensures.derived;
      second = c.in_ok-other.ensures.derived;
    }) c.judge_ends.result c.judge_ends.ensures
