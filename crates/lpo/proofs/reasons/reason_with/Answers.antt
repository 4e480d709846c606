use Rattle.std.proofs.Common.{map, ◌+◌, arith, subst}
use Rattle.term_core.specs.RuleView.{rule_view}
use Rattle.lpo.specs.Reasons.{ReasonAnswers}
use Rattle.lpo.proofs.FirstReason.{reason_kept, reason_found, reason_none}
use Rattle.lpo.proofs.reasons.reason_with.Goals as goal

pub returns : goal.returns
returns c =
    λ shape front many h.
    let places = c.args.places.now in
    let so_far = subst (ReasonAnswers shape places front) c.in_default.is h in
    reason_found shape places front (map rule_view c.args.rules.now) c.in_ok-i.i (c.args.before + c.in_ok-i.i + 1) (omega (arith, many)) so_far
    c.in_ok-i.ensures

pub returns-in_err-i : goal.returns-in_err-i
returns-in_err-i c =
    λ shape front many h.
    let places = c.args.places.now in
    rw c.from_residual.ensures (reason_none shape places front (map rule_view c.args.rules.now) (subst (ReasonAnswers shape places front) c.in_default.is h) c.in_err-i.ensures)

pub returns-in-Some : goal.returns-in-Some
returns-in-Some c =
    λ shape front many h.
    let places = c.args.places.now in
    reason_kept shape places front (map rule_view c.args.rules.now) c.in-Some.known (subst (ReasonAnswers shape places front) c.in-Some.is h)
