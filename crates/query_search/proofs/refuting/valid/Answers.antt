use Rattle.std.proofs.Common.{map, subst, Ok}
use Rattle.term_core.specs.RuleView.{condition_view}
use Rattle.cert_model.specs.EvidenceView.{inf_evidence_view}
use Rattle.cert_model.specs.ReasonView.{evidence_reason_view}
use Rattle.evidence_offers.specs.Answers.{OfferAnswers}
use Rattle.evidence_offers.specs.RefutingView.{refuting_view}
use Rattle.evidence_offers.proofs.Growing.{refused_fails}
use Rattle.query_search.proofs.refuting.valid.Goals as goal

pub returns-in-Err-Reason : goal.returns-in-Err-Reason
returns-in-Err-Reason c =
    let cs = map condition_view c.args.conds.now in
    let r = refuting_view c.args.refuting in
    let offered = subst (λ s. OfferAnswers s cs r (Ok c.in_ok-evidence.field-0)) c.system.ensures c.in_ok-evidence.ensures in
    λ b h. refused_fails c.args.sys.now cs r (inf_evidence_view c.in-Some.evidence) (evidence_reason_view c.in-Err-Reason.field-0-0) (rw c.in-Some.is at offered)
    (rw c.in-Err-Reason.field-0-is at c.in-Err-Reason.ensures.judged) b h.0 h.1
