use Rattle.std.proofs.Common.{◌+◌, ◌∷◌, [], ap, drop}
use Rattle.term_core.specs.View.{view}
use Rattle.search_spaces.specs.PeakItems.{try_ends}
use Rattle.noncon_search.specs.Ends.{end_view, ends_view}
use Rattle.noncon_search.specs.Answers.{pairs_with}
use Rattle.search_answers.specs.Answers.{ending_of}
use Rattle.search_answers.proofs.Walking.{goes_on, ends, fails, not_nothing_found}
use Rattle.noncon_search.proofs.Listed.{with_splits, later_left, skip_next}
use Rattle.noncon_search.proofs.pairs.try_with.Goals as goal

pub returns-in_err-end : goal.returns-in_err-end
returns-in_err-end c = fails c.later.invariant.walking ending_of c.try_pair.new.budget c.from_residual.result c.from_residual.ensures.0 c.in_err-end.ensures

pub returns-in_default : goal.returns-in_default
returns-in_default c =
    let t = view c.args.first.start.now in
    let x = end_view c.args.first.end.now in
    let later = c.args.later.now in
    let j = c.later.second-index in
    let y = c.second-item.result in
    ends c.later.invariant.walking c.try_pair.new.budget (try_ends t x (end_view y) ∷ []) (pairs_with t x (ends_view (drop (j + 1) later)))
    (with_splits t x later j y c.later-test.true c.second-item.is) (ending_of c.in_ok-end.end) (not_nothing_found c.in_ok-end.end c.in_default.not-Nothing) c.in_ok-end.ensures

pub later-preserved : goal.later-preserved
later-preserved c =
    let t = view c.args.first.start.now in
    let x = end_view c.args.first.end.now in
    let later = c.args.later.now in
    let j = c.later.second-index in
    let y = c.second-item.result in
    record {
      walking = goes_on c.later.invariant.walking c.try_pair.new.budget (try_ends t x (end_view y) ∷ []) (pairs_with t x (ends_view (drop (j + 1) later)))
          (with_splits t x later j y c.later-test.true c.second-item.is) (ending_of c.in_ok-end.end) (ap ending_of c.in-Nothing.is) c.in_ok-end.ensures;
      ends = skip_next c.args.sys.now t c.args.first.end.now y (drop (j + 1) later)
          (later_left c.args.sys.now t c.args.first.end.now later j y c.later-test.true c.second-item.is c.later.invariant.ends);
    }
