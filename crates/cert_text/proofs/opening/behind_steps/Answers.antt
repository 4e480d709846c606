use Rattle.cert_text.proofs.OpenedViews.{simplified_opened}
use Rattle.cert_text.proofs.opening.behind_steps.Goals as goal

pub returns : goal.returns
returns c = λ names bytes h. rw (simplified_opened, c.in_ok-body.ensures.ok) (rw c.in-Some.is at h)
