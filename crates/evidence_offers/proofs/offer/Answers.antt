use Rattle.std.proofs.Common.{map, sym, subst}
use Rattle.term_core.specs.RuleView.{condition_view}
use Rattle.evidence_offers.specs.Answers.{OfferAnswers}
use Rattle.evidence_offers.specs.RefutingView.{refuting_view}
use Rattle.evidence_offers.proofs.offer.Goals as goal

pub returns-in-Growth : goal.returns-in-Growth
returns-in-Growth c =
    subst (λ r. OfferAnswers c.args.sys.now (map condition_view c.args.conds.now) (refuting_view r) c.offer_growth.result) (sym c.in-Growth.is) c.offer_growth.ensures
