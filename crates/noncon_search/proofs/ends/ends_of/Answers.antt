use Rattle.std.proofs.Common.{◌≡◌, ◌+◌, ◌++◌, drop, sym, subst}
use Rattle.reach_lists.specs.Laws.{EachOf}
use Rattle.reach.specs.EntryView.{table_view}
use Rattle.noncon_search.specs.Ends.{ends_view, IsEnd, AreMet}
use Rattle.noncon_search.specs.Laying.{IsUnder}
use Rattle.noncon_search.proofs.Meeting.{one_more_met, one_more_under, one_more_end, one_more_listed, rest_fit}
use Rattle.noncon_search.proofs.ends.ends_of.Goals as goal

pub list-preserved : goal.list-preserved
list-preserved c =
    let sys = c.args.sys.now in
    let es = c.list.ends.items in
    let e = c.in_ok-end_of.field-0 in
    let end = c.in_ok-end_of.ensures in
    let put = c.in_ok-push.ensures.items in
    record {
      listed = subst (λ z. ends_view z ++ table_view (drop (c.list.listed-index + 1) c.args.list.now) ≡ table_view c.args.list.now) (sym put)
          (one_more_listed c.args.list.now c.list.listed-index c.listed-item.result c.list-test.true c.listed-item.is es e end.listed c.list.invariant.listed);
      ends = subst (EachOf (IsEnd sys)) (sym put) (one_more_end sys c.list.overlay c.end_of.new.overlay e end.end end.laid es c.list.invariant.ends);
      fit = rest_fit c.args.list.now c.list.listed-index c.listed-item.result c.list-test.true c.listed-item.is c.list.invariant.fit;
      met = subst (AreMet sys) (sym put) (one_more_met sys c.list.overlay c.end_of.new.overlay e end.end end.laid es c.list.invariant.ends c.list.invariant.under c.list.invariant.met);
      under = subst (EachOf (λ x. IsUnder c.end_of.new.overlay x.cap)) (sym put) (one_more_under sys c.list.overlay c.end_of.new.overlay e end.end end.laid es c.list.invariant.under);
    }
