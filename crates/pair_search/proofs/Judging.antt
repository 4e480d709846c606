-- Evidence that is judged.
use Rattle.std.proofs.Common.{◌≡◌, None, Some, Err, subst}
use Rattle.rewriting.specs.Rules.{System}
use Rattle.unifier_run.specs.Overlaps.{Overlap}
use Rattle.certificates.specs.Evidence as math
use Rattle.certificates.specs.Reasons.{EvidenceReason}
use Rattle.valid_certificates.specs.Kinds.{Kind}
use Rattle.valid_certificates.specs.PairEvidence.{IsPairJudged}
use Rattle.valid_certificates.proofs.OneEvidence.{pair_judged_once}
use Rattle.cert_model.specs.declared.reasons.EvidenceReason as reasons
use Rattle.cert_model.specs.ReasonView.{evidence_reason_view}
use Rattle.refuter.specs.Answers.{RefutesAnswers}
use Rattle.refuter.specs.declared.Refusal.{Refusal}
use Rattle.refuter.specs.declared.Refusal.TheVariants.{Reason}

module _ (kind : Kind) (sys : System) (o : Overlap) where
  judged_other : (e : math.PairEvidence) (why : EvidenceReason) → IsPairJudged kind sys o e (Some why) → IsPairJudged kind sys o e None → ⊥
  judged_other e why h k = let same = pair_judged_once kind sys o e None (Some why) k h in cc

  pub judged_refused : (e : math.PairEvidence) (r : Refusal) (why : reasons.EvidenceReason) → r ≡ Reason why → RefutesAnswers (IsPairJudged kind sys o e) (Err r) → IsPairJudged kind sys o e None → ⊥
  judged_refused e r why is h = judged_other e (evidence_reason_view why) (subst (λ z. RefutesAnswers (IsPairJudged kind sys o e) (Err z)) is h)
