use Rattle.std.proofs.Common.{◌+◌, Ok, ap, drop, subst}
use Rattle.term_core.specs.View.{view}
use Rattle.noncon_search.specs.Ends.{end_view, ends_view}
use Rattle.noncon_search.specs.Answers.{pairs_with, pair_items, WalkAnswers}
use Rattle.search_answers.specs.Answers.{ending_of}
use Rattle.search_answers.proofs.Walking.{goes_on, ends, fails, not_nothing_found}
use Rattle.noncon_search.proofs.Listed.{slice_rest, firsts_split, ends_left, without_first}
use Rattle.noncon_search.proofs.pairs.try_pairs.Goals as goal

pub returns-in_err-end : goal.returns-in_err-end
returns-in_err-end c = fails c.firsts.invariant.walking ending_of c.try_with.new.budget c.from_residual.result c.from_residual.ensures.0 c.in_err-end.ensures

pub returns-in_default : goal.returns-in_default
returns-in_default c =
    let t = view c.args.start.now in
    let all = c.args.ends.now in
    let i = c.firsts.i in
    let x = c.index-ends-i.result in
    ends c.firsts.invariant.walking c.try_with.new.budget (pairs_with t (end_view x) (ends_view (drop (i + 1) all))) (pair_items t (ends_view (drop (i + 1) all)))
    (firsts_split t all i x c.firsts-test.true c.index-ends-i.is) (ending_of c.in_ok-end.end) (not_nothing_found c.in_ok-end.end c.in_default.not-Nothing)
    (subst (λ l. WalkAnswers c.args.names.now c.args.sys.now (pairs_with t (end_view x) (ends_view l)) c.firsts.budget c.try_with.new.budget (Ok c.in_ok-end.end))
    (slice_rest all (i + 1)) c.in_ok-end.ensures)

pub firsts-preserved : goal.firsts-preserved
firsts-preserved c =
    let t = view c.args.start.now in
    let all = c.args.ends.now in
    let i = c.firsts.i in
    let x = c.index-ends-i.result in
    record {
      walking = goes_on c.firsts.invariant.walking c.try_with.new.budget (pairs_with t (end_view x) (ends_view (drop (i + 1) all))) (pair_items t (ends_view (drop (i + 1) all)))
          (firsts_split t all i x c.firsts-test.true c.index-ends-i.is) (ending_of c.in_ok-end.end) (ap ending_of c.in-Nothing.is)
          (subst (λ l. WalkAnswers c.args.names.now c.args.sys.now (pairs_with t (end_view x) (ends_view l)) c.firsts.budget c.try_with.new.budget (Ok c.in_ok-end.end))
          (slice_rest all (i + 1)) c.in_ok-end.ensures);
      ends = without_first c.args.sys.now t x (drop (i + 1) all) (ends_left c.args.sys.now t all i x c.firsts-test.true c.index-ends-i.is c.firsts.invariant.ends);
    }
