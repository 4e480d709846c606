use Rattle.std.proofs.Common.{map, refl}
use Rattle.certificates.specs.Evidence.{by_caps}
use Rattle.search_spaces.specs.Refuting.{try_caps}
use Rattle.term_core.specs.RuleView.{condition_view}
use Rattle.cert_model.specs.ReasonView.{evidence_reason_view}
use Rattle.noncon_search.proofs.Firsts.{refused_gives}
use Rattle.noncon_search.proofs.trying.by_caps.Goals as goal

pub returns-in-Err-Reason : goal.returns-in-Err-Reason
returns-in-Err-Reason c =
    refused_gives c.args.sys.now (map condition_view c.args.conds.now) try_caps by_caps (evidence_reason_view c.in-Err-Reason.field-0-0) refl
    (rw c.in-Err-Reason.field-0-is at c.in-Err-Reason.ensures.judged) c.requires.fit
