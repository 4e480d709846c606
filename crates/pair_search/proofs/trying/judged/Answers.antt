use Rattle.validity.specs.KindView.{kind_view}
use Rattle.cert_model.specs.EvidenceView.{pair_evidence_view}
use Rattle.critical_pairs.specs.View.{overlap_view}
use Rattle.pair_search.proofs.Judging.{judged_refused}
use Rattle.pair_search.proofs.trying.judged.Goals as goal

pub returns-in-Err-Reason : goal.returns-in-Err-Reason
returns-in-Err-Reason c =
    judged_refused (kind_view c.args.kind) c.args.sys.now (overlap_view c.args.overlap.now) (pair_evidence_view c.args.evidence) c.in-Err-Reason.field-0 c.in-Err-Reason.field-0-0
    c.in-Err-Reason.field-0-is c.in-Err-Reason.ensures.judged
