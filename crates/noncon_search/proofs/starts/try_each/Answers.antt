use Rattle.std.proofs.Common.{◌+◌, Ok, sym, drop, map, ap, subst}
use Rattle.rewriting.specs.Terms.{Fits}
use Rattle.search_spaces.specs.PeakItems.{peak_items_of, peak_items}
use Rattle.search_answers.specs.Answers.{ending_of}
use Rattle.search_answers.proofs.Walking.{goes_on, ends, fails, not_nothing_found}
use Rattle.noncon_search.specs.Answers.{WalkAnswers}
use Rattle.noncon_search.proofs.Listed.{starts_split, first_of_rest}
use Rattle.noncon_search.proofs.starts.try_each.Goals as goal

pub try_start-requires : goal.try_start-requires
try_start-requires g c = record {
  fits = subst Fits (sym c.start.ensures)
      (first_of_rest (λ y. Fits (g.T.HasStart.start y)) c.args.all.now c.starts.one-index c.one-item.result c.starts-test.true c.one-item.is c.starts.invariant.fit).0;
}

pub returns-in_err-end : goal.returns-in_err-end
returns-in_err-end g c = fails c.starts.invariant.walking ending_of c.try_start.new.budget c.from_residual.result c.from_residual.ensures.0 c.in_err-end.ensures

pub returns-in_default : goal.returns-in_default
returns-in_default g c =
    let sys = c.args.sys.now in
    let all = c.args.all.now in
    let i = c.starts.one-index in
    let x = c.one-item.result in
    ends c.starts.invariant.walking c.try_start.new.budget (peak_items_of sys (g.T.HasStart.start x)) (peak_items sys (map g.T.HasStart.start (drop (i + 1) all)))
    (starts_split sys g.T.HasStart.start all i x c.starts-test.true c.one-item.is) (ending_of c.in_ok-end.end) (not_nothing_found c.in_ok-end.end c.in_default.not-Nothing)
    (subst (λ t. WalkAnswers c.args.names.now sys (peak_items_of sys t) c.starts.budget c.try_start.new.budget (Ok c.in_ok-end.end)) c.start.ensures c.in_ok-end.ensures)

pub starts-preserved : goal.starts-preserved
starts-preserved g c =
    let sys = c.args.sys.now in
    let all = c.args.all.now in
    let i = c.starts.one-index in
    let x = c.one-item.result in
    record {
      walking = goes_on c.starts.invariant.walking c.try_start.new.budget (peak_items_of sys (g.T.HasStart.start x)) (peak_items sys (map g.T.HasStart.start (drop (i + 1) all)))
          (starts_split sys g.T.HasStart.start all i x c.starts-test.true c.one-item.is) (ending_of c.in_ok-end.end) (ap ending_of c.in-Nothing.is)
          (subst (λ t. WalkAnswers c.args.names.now sys (peak_items_of sys t) c.starts.budget c.try_start.new.budget (Ok c.in_ok-end.end)) c.start.ensures c.in_ok-end.ensures);
      fit = (first_of_rest (λ y. Fits (g.T.HasStart.start y)) all i x c.starts-test.true c.one-item.is c.starts.invariant.fit).1;
    }
