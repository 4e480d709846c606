use Rattle.cc_count.proofs.Spending.{none_left}
use Rattle.std.proofs.Common.{refl, arith}
use Rattle.cert_model.specs.EvidenceView.{pair_evidence_view}
use Rattle.critical_pairs.specs.View.{overlap_view}
use Rattle.evidence_offers.specs.RefutingView.{refuting_view}
use Rattle.search_answers.proofs.Walking.{item_stops, item_gives}
use Rattle.quasi_space.specs.QuasiItems.{try_refuting, quasi_item_cost, GivesQuasi}
use Rattle.quasi_search.proofs.refuting.try_way.Goals as goal

pub returns-then-not-take-clause-answer : goal.returns-then-not-take-clause-answer
returns-then-not-take-clause-answer c =
    item_stops quasi_item_cost (GivesQuasi c.args.sys.now (overlap_view c.args.overlap.now)) (try_refuting (refuting_view c.args.refuting)) c.args.budget.now c.take.new.self (omega arith)
    (none_left c.args.budget.now c.if-not-take.ensures.some.1) (c.if-not-take.ensures.none refl)

pub returns-in-Some-clause-answer : goal.returns-in-Some-clause-answer
returns-in-Some-clause-answer c =
    let o = overlap_view c.args.overlap.now in
    item_gives quasi_item_cost (GivesQuasi c.args.sys.now o) (try_refuting (refuting_view c.args.refuting)) c.args.budget.now c.take.new.self
    (c.if-not-take.ensures.taken refl) (pair_evidence_view c.in-Some.evidence) (rw c.in-Some.is at c.in_ok-evidence.ensures.answer)
