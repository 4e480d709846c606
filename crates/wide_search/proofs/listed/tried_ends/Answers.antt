use Rattle.std.proofs.Common.{[]}
use Rattle.term_core.specs.View.{view}
use Rattle.reach.specs.EntryView.{table_view}
use Rattle.reach.proofs.Fitting.{list_fits}
use Rattle.noncon_search.proofs.Listed.{ends_are}
use Rattle.wide_search.proofs.listed.tried_ends.Goals as goal

pub ends_of-requires : goal.ends_of-requires
ends_of-requires c = record { fit = list_fits c.args.sys.now [] 8 3 (view c.args.start.now) (table_view c.args.listed.now) c.requires.listed c.requires.fits }

pub refuted-requires : goal.refuted-requires
refuted-requires c =
    let ends = c.in_ok-ends.ensures in
    record { ends = ends_are c.args.sys.now (view c.args.start.now) 8 3 (table_view c.args.listed.now) c.requires.listed c.in_ok-ends.ends.items ends.listed ends.ends ends.met }

pub returns-in-All : goal.returns-in-All
returns-in-All c =
    let ends = c.in_ok-ends.ensures in
    ends_are c.args.sys.now (view c.args.start.now) 8 3 (table_view c.args.listed.now) c.requires.listed c.in_ok-ends.ends.items ends.listed ends.ends ends.met
