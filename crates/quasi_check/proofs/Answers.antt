-- From what the parts of the check answer to what a run begins with.
use Rattle.std.proofs.Common.{List, Ok, Err, Result}
use Rattle.rewriting.specs.Rules.{System}
use Rattle.interpretations.specs.Judgement.{Judgement, good}
use Rattle.certificates.specs.Prelude.{PairEntry, Rejection}
use Rattle.cert_model.specs.ReasonView.{rejected_view}
use Rattle.validity.specs.declared.CheckError.{CheckError}
use Rattle.validity.specs.declared.CheckError.TheVariants.{Rejected, NoMemory}
use Rattle.valid_certificates.specs.Kinds.{quasi}
use Rattle.pair_check.specs.Runs.{StartAnswers as PairStart}
use Rattle.tallies.specs.Runs.{PairRun}
use Rattle.quasi_check.specs.Runs.{StartAnswers}
use Rattle.valid_certificates.specs.Confluence.{IsQuasiRejected, not_deterministic, side_is_reducible, measure_is_bad, unraveling_is_large, quasi_pairs_fail}
use Rattle.quasi_check.specs.Parts.{AreRulesGood, AreRulesRejected, class_is_left, side_reduces, RulesAnswers, IsMeasureRejected, reason_is_told, rule_is_large, MeasureAnswers}

module _ (Is : Judgement → Type 0) (sys : System) where
  rules_fail : (es : List PairEntry) (r : Rejection) → AreRulesRejected sys r → IsQuasiRejected Is sys es r
  rules_fail es r (class_is_left blame h) = not_deterministic blame h
  rules_fail es r (side_reduces i k d h) = side_is_reducible i k d h

  pub rules_rejected : (e : CheckError) → RulesAnswers sys (Err e) → StartAnswers Is sys (Err e)
  rules_rejected (Rejected reason) h = λ es. rules_fail es (rejected_view reason) h
  rules_rejected NoMemory h = tt

  measure_fails : (es : List PairEntry) (r : Rejection) → AreRulesGood sys → IsMeasureRejected Is r → IsQuasiRejected Is sys es r
  measure_fails es r rules (reason_is_told why h) = measure_is_bad why rules.deterministic rules.irreducible h
  measure_fails es r rules (rule_is_large i h) = unraveling_is_large i rules.deterministic rules.irreducible h

  pub measure_rejected : (e : CheckError) → AreRulesGood sys → MeasureAnswers Is (Err e) → StartAnswers Is sys (Err e)
  measure_rejected (Rejected reason) rules h = λ es. measure_fails es (rejected_view reason) rules h
  measure_rejected NoMemory rules h = tt

  pub pairs_started : (a : Result PairRun CheckError) → AreRulesGood sys → Is good → PairStart quasi sys a → StartAnswers Is sys a
  pairs_started (Ok run) rules measure h = (rules, (measure, h))
  pairs_started (Err (Rejected reason)) rules measure h = λ es. quasi_pairs_fail (rejected_view reason) rules.deterministic rules.irreducible measure (h es)
  pairs_started (Err NoMemory) rules measure h = tt
