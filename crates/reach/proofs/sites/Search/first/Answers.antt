use Rattle.std.proofs.Common.{map, sym, ◌∙◌}
use Rattle.cc_count.proofs.Spending.{spends_same}
use Rattle.term_core.specs.RuleView.{condition_view}
use Rattle.reach.specs.PathView.{path_view}
use Rattle.reach.specs.Ready.{inner, price}
use Rattle.reach.specs.declared.solutions.Path.{Path}
use Rattle.reach.proofs.Paying.{paying_begins}
use Rattle.reach.proofs.Sought.{begun, first_sought, all_price, first_part}
use Rattle.reach.proofs.Stopping.{err_part}
use Rattle.reach.proofs.sites.Search.first.Goals as goal

pub returns-in_err-seek-clause-found : goal.returns-in_err-seek-clause-found
returns-in_err-seek-clause-found c =
    let self = c.args.self.now in
    let path : Path = record { values = c.in_ok-try_clone.field-0; trail = c.new.result; by = c.new-2.result } in
    let start = begun c.in_ok-try_clone.field-0 c.args.values.now c.new-2.result.items c.in_ok-try_clone.ensures c.new-2.ensures.items in
    err_part _ _ _ _ _ _ _ _ _ (first_part (inner self) (map condition_view c.args.conds.now) (path_view path) c.args.values.now start (price self))
    (paying_begins _ c.args.means.now.budget) c.from_residual-in_err-seek.ensures.0 c.from_residual-in_err-seek.ensures.1 c.in_err-seek.ensures.found

pub returns-clause-found : goal.returns-clause-found
returns-clause-found c =
    let self = c.args.self.now in
    let path : Path = record { values = c.in_ok-try_clone.field-0; trail = c.new.result; by = c.new-2.result } in
    let start = begun c.in_ok-try_clone.field-0 c.args.values.now c.new-2.result.items c.in_ok-try_clone.ensures c.new-2.ensures.items in
    let cost = all_price (inner self) (map condition_view c.args.conds.now) (path_view path) c.args.values.now start (price self) in (
      c.in_ok-seek.ensures.found.0 ∙ first_sought (inner self) (map condition_view c.args.conds.now) (path_view path) c.args.values.now start,
      spends_same c.args.means.now.budget c.seek.new.means.budget _ _ (sym cost) c.in_ok-seek.ensures.found.1,
    )
