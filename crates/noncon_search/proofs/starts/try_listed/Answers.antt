use Rattle.std.proofs.Common.{[], ◌∙◌, sym, ap, subst}
use Rattle.reach_lists.specs.Laws.{EachOf}
use Rattle.term_core.specs.View.{view}
use Rattle.reach.specs.EntryView.{table_view}
use Rattle.noncon_search.specs.Ends.{ends_view, IsEnd, AreMet}
use Rattle.reach.proofs.Fitting.{list_fits}
use Rattle.noncon_search.proofs.Listed.{ends_are}
use Rattle.noncon_search.proofs.starts.try_listed.Goals as goal

pub ends_of-requires : goal.ends_of-requires
ends_of-requires c = record { fit = list_fits c.args.sys.now [] 5 2 (view c.args.start.now) (table_view c.args.listed.now) c.requires.listed c.requires.fits }

pub try_pairs-requires : goal.try_pairs-requires
try_pairs-requires c = record {
  ends = ends_are c.args.sys.now (view c.args.start.now) 5 2 (table_view c.args.listed.now) c.requires.listed c.deref.result.now
      (ap ends_view c.deref.ensures.value ∙ c.in_ok-ends.ensures.listed) (subst (EachOf (IsEnd c.args.sys.now)) (sym c.deref.ensures.value) c.in_ok-ends.ensures.ends)
      (subst (AreMet c.args.sys.now) (sym c.deref.ensures.value) c.in_ok-ends.ensures.met);
}
