-- A valid certificate shows what confluence needs.
use Rattle.std.proofs.Common.{List, Ok, Err, Result}
use Rattle.rewriting.specs.Prelude.{IsConfluent, AreDescentsBounded, System, IsWellFormed, IsSystem}
use Rattle.rewriting.proofs.Laws.{well_formed}
use Rattle.unifier_run.specs.Run.{value}
use Rattle.interpretations.specs.Judgement.{Judgement, good}
use Rattle.interpretations.proofs.Bound.{good_bounds}
use Rattle.path_orders.proofs.Bound.{good_bounds as precedence_bounds}
use Rattle.certificates.specs.Certificates.{MeasureCertificate, PairEntry, linear_measure, precedence_measure}
use Rattle.descent_theorem.specs.Bounded.{IsBoundedAndSettled, BoundedAndSettledSystemsAreConfluent}
use Rattle.descent_theorem.specs.Evidence.{AreOverlapsSettled}
use Rattle.std.specs.Prelude.{OnOk}
use Rattle.cert_model.specs.declared.reasons.Rejected.{Rejected}
use Rattle.valid_certificates.specs.Kinds.{quasi}
use Rattle.valid_certificates.specs.Certificates.{IsMeasureJudged}
use Rattle.valid_certificates.specs.Confluence.{IsValidQuasi}
use Rattle.valid_certificates.specs.Entries.{DoSettle}
use Rattle.valid_certificates.proofs.Settled.{settled}
use Rattle.quasi_check.specs.Runs.{QuasiFinish}
use Rattle.quasi_check.specs.Laws.{ValidMeasuredSystemsAreConfluent}
use Rattle.quasi_check.proofs.SoundPairs.{pair_over}
use Rattle.quasi_check.proofs.SoundEvidence.{none_unifies, judged_settles}

overlaps_settled : (sys : System) (es : List PairEntry) → IsWellFormed sys → DoSettle quasi sys es → AreOverlapsSettled sys
overlaps_settled sys es well pairs i p j o =
    let s = settled quasi sys es pairs i p j o in
    let over = pair_over sys well i p j o.inner o.outer o.part o.place s.by s.outcome s.listed.pair s.pair in
    (value s.by, s.listed.pair, s.pair, judged_settles sys well s.listed over s.evidence s.judged)

-- whatever the measure is judged by, if good it bounds descents
pub valid_is_bounded : (Is : Judgement → Type 0) (sys : System) (es : List PairEntry) → (Is good → AreDescentsBounded sys) → IsWellFormed sys → IsValidQuasi Is sys es → IsBoundedAndSettled sys
valid_is_bounded Is sys es bounds well valid =
    record {
      well_formed = well;
      strongly_deterministic = record { deterministic = valid.deterministic; irreducible = λ i r k c is at. none_unifies sys c.right (valid.irreducible i r k c is at) };
      bounded = bounds valid.measure;
      overlaps = overlaps_settled sys es well valid.pairs;
    }

pub quasi_confluent : BoundedAndSettledSystemsAreConfluent → (Is : Judgement → Type 0) (sys : System) (es : List PairEntry) → (Is good → AreDescentsBounded sys) → IsSystem sys
    → (a : Result (Unit {0}) Rejected) → QuasiFinish Is sys es a → OnOk a (IsConfluent sys)
quasi_confluent law Is sys es bounds kept (Ok _) valid = law sys (valid_is_bounded Is sys es bounds (well_formed sys kept) valid)
quasi_confluent law Is sys es bounds kept (Err e) h = tt

-- the same as a law of valid certificates
pub measure_bounds : (sys : System) (m : MeasureCertificate) → IsWellFormed sys → IsMeasureJudged sys m good → AreDescentsBounded sys
measure_bounds sys (linear_measure es) well judged = good_bounds sys es well judged.1
measure_bounds sys (precedence_measure order) well judged = precedence_bounds sys order well judged.1

pub measured_confluent : BoundedAndSettledSystemsAreConfluent → ValidMeasuredSystemsAreConfluent
measured_confluent law sys m es well valid = law sys (valid_is_bounded (IsMeasureJudged sys m) sys es (measure_bounds sys m well) well valid)
