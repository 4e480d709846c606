use Rattle.cc_count.proofs.Spending.{none_left}
use Rattle.std.proofs.Common.{refl, arith}
use Rattle.term_core.specs.View.{view}
use Rattle.cert_model.specs.CertificateView.{certificate_view}
use Rattle.search_spaces.specs.PeakItems.{peak_item_cost, try_ends, GivesPeak}
use Rattle.search_answers.proofs.Walking.{item_stops, item_gives}
use Rattle.noncon_search.specs.Ends.{end_view}
use Rattle.noncon_search.proofs.pairs.try_pair.Goals as goal

pub returns-then-not-take : goal.returns-then-not-take
returns-then-not-take c =
    item_stops peak_item_cost (GivesPeak c.args.names.now c.args.sys.now) (try_ends (view c.args.first.start.now) (end_view c.args.first.end.now) (end_view c.args.second.now))
    c.args.budget.now c.take.new.self (omega arith) (none_left c.args.budget.now c.if-not-take.ensures.some.1) (c.if-not-take.ensures.none refl)

pub returns-in-Some : goal.returns-in-Some
returns-in-Some c =
    item_gives peak_item_cost (GivesPeak c.args.names.now c.args.sys.now) (try_ends (view c.args.first.start.now) (end_view c.args.first.end.now) (end_view c.args.second.now))
    c.args.budget.now c.take.new.self (c.if-not-take.ensures.taken refl) (certificate_view c.in-Some.cert) (rw c.in-Some.is at c.in_ok-cert.ensures)
