use Rattle.std.proofs.Common.{sym, subst}
use Rattle.validity.specs.KindView.{kind_view}
use Rattle.critical_pairs.specs.View.{overlap_view}
use Rattle.search_spaces.specs.PairItems.{try_refuting}
use Rattle.evidence_offers.specs.RefutingView.{refuting_view}
use Rattle.pair_search.specs.Answers.{ItemAnswers}
use Rattle.pair_search.proofs.trying.try_refuting.Goals as goal

pub returns-in-Growth-clause-answer : goal.returns-in-Growth-clause-answer
returns-in-Growth-clause-answer c =
    subst (λ r. ItemAnswers (kind_view c.args.kind) c.args.sys.now (overlap_view c.args.overlap.now) (try_refuting (refuting_view r)) c.grow.result) (sym c.in-Growth.is)
    (c.grow.ensures.answer (kind_view c.args.kind))
