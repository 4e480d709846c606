use Rattle.cert_writing.proofs.Prelude.{steps_shown, conditions_shown}
use Rattle.cert_writing.proofs.written_terms.+derivation.Goals as goal

pub DerivationPart::put-returns : goal.DerivationPart::put-returns
DerivationPart::put-returns g t c = rw (steps_shown c.args.self.now, ← c.len.ensures) (g.met.O.Output.parts _ _ _ _ _ c.put.ensures c.put-2.ensures)

pub StepPart::put-returns-in-Rule : goal.StepPart::put-returns-in-Rule
StepPart::put-returns-in-Rule g t c =
    rw (conditions_shown _ _ _ _ c.in-Rule.is, ← c.len.ensures) (g.met.O.Output.parts _ _ _ _ _ c.put.ensures c.put-in-Rule.ensures)
