use Rattle.cert_reading.proofs.Lemmas.{past, versions, other_word}
use Rattle.cert_reading.proofs.Prelude.{refl, arith, heading}
use Rattle.cert_reading.proofs.headings.version_line.Goals as goal

pub returns-in-0 : goal.returns-in-0
returns-in-0 c = λ names given. other_word tt (λ here. c.choose.ensures.here here names (heading given) (versions given) refl refl)
    (rw c.in-0.is at (c.choose.ensures.chosen names (heading given) (versions given) refl refl))

pub returns-in-1 : goal.returns-in-1
returns-in-1 c = λ names given. other_word tt (λ here. c.choose.ensures.here here names (heading given) (versions given) refl refl)
    (rw c.in-1.is at (c.choose.ensures.chosen names (heading given) (versions given) refl refl))

pub returns-in_default : goal.returns-in_default
returns-in_default c = λ names given. other_word tt (λ here. c.choose.ensures.here here names (heading given) (versions given) refl refl)
    (past names c.args.end (heading given) (versions given) _ _ _ _ _ (let other = c.in_default in omega (arith, other)) (c.choose.ensures.chosen names (heading given) (versions given) refl refl))
