use Rattle.cert_model.specs.ReasonView.{measure_reason_view}
use Rattle.quasi_check.specs.Parts.{reason_is_told, rule_is_large}
use Rattle.quasi_check.proofs.quasi.check_measure.Goals as goal

pub returns-in-Err-Reason : goal.returns-in-Err-Reason
returns-in-Err-Reason g c = reason_is_told (measure_reason_view c.in-Err-Reason.reason) (rw c.in-Err-Reason.field-0-is at c.in-Err-Reason.ensures)

pub returns-in-Err-Unraveling : goal.returns-in-Err-Unraveling
returns-in-Err-Unraveling g c = rule_is_large c.in-Err-Unraveling.rule (rw c.in-Err-Unraveling.field-0-is at c.in-Err-Unraveling.ensures)
