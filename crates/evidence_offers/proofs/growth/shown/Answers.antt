use Rattle.std.proofs.Common.{map}
use Rattle.term_core.specs.RuleView.{condition_view}
use Rattle.cert_model.specs.EvidenceView.{automaton_view}
use Rattle.evidence_offers.proofs.Growing.{not_shown}
use Rattle.evidence_offers.proofs.growth.shown.Goals as goal

pub returns-in-Err-Reason : goal.returns-in-Err-Reason
returns-in-Err-Reason c =
    not_shown c.args.sys.now (map condition_view c.args.conds.now) c.args.cond (automaton_view c.args.automaton) c.in-Err-Reason.field-0 c.in-Err-Reason.field-0-0
    c.in-Err-Reason.field-0-is c.in-Err-Reason.ensures
