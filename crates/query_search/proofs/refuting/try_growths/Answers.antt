use Rattle.std.proofs.Common.{◌+◌, ◌∷◌, [], map, length, ap}
use Rattle.search_spaces.specs.Refuting.{try_growth}
use Rattle.query_space.specs.Items.{try_refuting}
use Rattle.search_spaces.proofs.Growths.{growths_behind, next_behind}
use Rattle.search_answers.proofs.Walking.{goes_on, ends, fails}
use Rattle.query_search.specs.Answers.{reply_view}
use Rattle.query_search.proofs.Ending.{not_nothing}
use Rattle.query_search.proofs.refuting.try_growths.Goals as goal

pub returns-in_err-end : goal.returns-in_err-end
returns-in_err-end c = fails c.growths.invariant reply_view c.try_evidence.new.budget c.from_residual.result c.from_residual.ensures.0 c.in_err-end.ensures

pub returns-in_default : goal.returns-in_default
returns-in_default c =
    let n = length c.args.conds.now in
    let k = c.growths.before in
    ends c.growths.invariant c.try_evidence.new.budget (try_refuting (try_growth (k + 1)) ∷ []) (map try_refuting (growths_behind (k + 1) n))
    (ap (map try_refuting) (next_behind k n c.growths-test.true)) (reply_view c.in_ok-end.end) (not_nothing c.in_ok-end.end c.in_default.not-Exhausted) c.in_ok-end.ensures

pub growths-preserved : goal.growths-preserved
growths-preserved c =
    let n = length c.args.conds.now in
    let k = c.growths.before in
    goes_on c.growths.invariant c.try_evidence.new.budget (try_refuting (try_growth (k + 1)) ∷ []) (map try_refuting (growths_behind (k + 1) n))
    (ap (map try_refuting) (next_behind k n c.growths-test.true)) (reply_view c.in_ok-end.end) (ap reply_view c.in-Exhausted.is) c.in_ok-end.ensures
