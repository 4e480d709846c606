use Rattle.std.proofs.Common.{refl, sym, subst}
use Rattle.certificates.specs.Evidence.{by_caps}
use Rattle.search_spaces.specs.Refuting.{try_caps}
use Rattle.simplified_spaces.specs.Tries.{try_drop}
use Rattle.evidence_offers.specs.RefutingView.{refuting_view}
use Rattle.term_core.specs.RuleView.{rule_view}
use Rattle.step_search.specs.Answers.{TryAnswers}
use Rattle.step_search.proofs.Known.{drop_tried}
use Rattle.step_search.proofs.tries.try_drop.Goals as goal

pub returns-in-Caps : goal.returns-in-Caps
returns-in-Caps c =
    subst (λ r. TryAnswers c.args.sys.now (try_drop c.args.number (refuting_view r)) c.dropping.result) (sym c.in-Caps.is)
    (drop_tried c.args.sys.now c.args.number try_caps (rule_view c.args.rule.now) c.requires by_caps refl c.dropping.result c.dropping.ensures)

pub returns-in-Growth : goal.returns-in-Growth
returns-in-Growth c =
    subst (λ r. TryAnswers c.args.sys.now (try_drop c.args.number (refuting_view r)) c.drop_by_growth.result) (sym c.in-Growth.is) c.drop_by_growth.ensures
