use Rattle.cc_count.proofs.Spending.{none_left}
use Rattle.std.proofs.Common.{map, refl, arith}
use Rattle.term_core.specs.RuleView.{condition_view}
use Rattle.cert_model.specs.EvidenceView.{inf_evidence_view}
use Rattle.evidence_offers.specs.RefutingView.{refuting_view}
use Rattle.query_space.specs.Items.{never_met, try_refuting, query_item_cost, GivesAnswer}
use Rattle.search_answers.proofs.Walking.{item_stops, item_gives}
use Rattle.query_search.proofs.refuting.try_evidence.Goals as goal

pub returns-then-not-take : goal.returns-then-not-take
returns-then-not-take c =
    let cs = map condition_view c.args.conds.now in
    item_stops (query_item_cost c.args.sys.now cs) (GivesAnswer c.args.sys.now cs) (try_refuting (refuting_view c.args.refuting)) c.args.budget.now c.take.new.self (omega arith)
    (none_left c.args.budget.now c.if-not-take.ensures.some.1) (c.if-not-take.ensures.none refl)

pub returns-in-Some : goal.returns-in-Some
returns-in-Some c =
    let cs = map condition_view c.args.conds.now in
    let r = refuting_view c.args.refuting in
    item_gives (query_item_cost c.args.sys.now cs) (GivesAnswer c.args.sys.now cs) (try_refuting r) c.args.budget.now c.take.new.self
    (c.if-not-take.ensures.taken refl) (never_met (inf_evidence_view c.in-Some.evidence))
    (inf_evidence_view c.in-Some.evidence, (rw c.in-Some.is at c.in_ok-evidence.ensures), refl)
