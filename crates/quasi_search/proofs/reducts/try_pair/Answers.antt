use Rattle.cc_count.proofs.Spending.{none_left}
use Rattle.std.proofs.Common.{◌∙◌, refl, sym, arith}
use Rattle.std.proofs.lemmas.Bool.{false≢true}
use Rattle.search_answers.proofs.Walking.{item_stops, item_gives, item_bare}
use Rattle.cert_model.specs.EvidenceView.{pair_evidence_view}
use Rattle.quasi_space.specs.QuasiItems.{two_reducts, quasi_item_cost, GivesQuasi}
use Rattle.quasi_search.specs.Reducts.{reduct_view}
use Rattle.quasi_search.proofs.Pairs.{bare_pair, pair_gives}
use Rattle.quasi_search.proofs.reducts.try_pair.Goals as goal

pub returns-then-not-take-clause-answer : goal.returns-then-not-take-clause-answer
returns-then-not-take-clause-answer c sys o each =
    item_stops quasi_item_cost (GivesQuasi sys o) (two_reducts c.args.cond (reduct_view c.args.first.now, reduct_view c.args.second.now)) c.args.budget.now c.take.new.self (omega arith)
    (none_left c.args.budget.now c.if-not-take.ensures.some.1) (c.if-not-take.ensures.none refl)

pub returns-then-not-first-clause-answer : goal.returns-then-not-first-clause-answer
returns-then-not-first-clause-answer c sys o each =
    item_bare quasi_item_cost (GivesQuasi sys o) (two_reducts c.args.cond (reduct_view c.args.first.now, reduct_view c.args.second.now)) c.args.budget.now c.take.new.self
    (c.if-not-take.ensures.taken refl)
    (bare_pair sys o c.args.cond c.args.first.now c.args.second.now each.0 each.1.0 (λ p q run. false≢true (sym c.if-not-first.true ∙ p)))

pub returns-then-not-second-clause-answer : goal.returns-then-not-second-clause-answer
returns-then-not-second-clause-answer c sys o each =
    item_bare quasi_item_cost (GivesQuasi sys o) (two_reducts c.args.cond (reduct_view c.args.first.now, reduct_view c.args.second.now)) c.args.budget.now c.take.new.self
    (c.if-not-take.ensures.taken refl)
    (bare_pair sys o c.args.cond c.args.first.now c.args.second.now each.0 each.1.0 (λ p q run. false≢true (sym c.if-not-second.true ∙ q)))

pub returns-then-not-branch-clause-answer : goal.returns-then-not-branch-clause-answer
returns-then-not-branch-clause-answer c sys o each =
    item_bare quasi_item_cost (GivesQuasi sys o) (two_reducts c.args.cond (reduct_view c.args.first.now, reduct_view c.args.second.now)) c.args.budget.now c.take.new.self
    (c.if-not-take.ensures.taken refl)
    (bare_pair sys o c.args.cond c.args.first.now c.args.second.now each.0 each.1.0 (λ p q run. false≢true (sym c.if-not-branch.true ∙ c.in_ok-do_clash.ensures.1 run)))

pub returns-clause-answer : goal.returns-clause-answer
returns-clause-answer c sys o each =
    item_gives quasi_item_cost (GivesQuasi sys o) (two_reducts c.args.cond (reduct_view c.args.first.now, reduct_view c.args.second.now)) c.args.budget.now c.take.new.self
    (c.if-not-take.ensures.taken refl)
    (pair_evidence_view c.in_ok-unfeasible.field-0)
    (pair_gives sys o c.args.cond c.args.first.now c.args.second.now each.0 each.1.0 c.if-not-first.false c.if-not-second.false (c.in_ok-do_clash.ensures.0 c.if-not-branch.false)
    c.in_ok-unfeasible.field-0 c.in_ok-unfeasible.ensures)
