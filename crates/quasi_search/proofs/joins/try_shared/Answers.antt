use Rattle.reach.specs.EntryView.{table_view}
use Rattle.quasi_search.proofs.Shared.{shared_given, none_given}
use Rattle.quasi_search.proofs.joins.try_shared.Goals as goal

pub returns-in_ok-joined-in-Some : goal.returns-in_ok-joined-in-Some
returns-in_ok-joined-in-Some c sys o a left right =
    shared_given sys o (table_view c.args.left.now) (table_view c.args.right.now) left right c.in_ok-first.field-0 c.in_ok-first.ensures c.in-Some.first c.in-Some.second c.in-Some.is a
    c.in_ok-joined-in-Some.field-0 c.in_ok-joined-in-Some.ensures

pub returns-in-None : goal.returns-in-None
returns-in-None c sys o a left right =
    none_given sys o (table_view c.args.left.now) (table_view c.args.right.now) left right c.in_ok-first.field-0 c.in_ok-first.ensures c.in-None.is a
