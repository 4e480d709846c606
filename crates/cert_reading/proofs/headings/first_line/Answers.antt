use Rattle.cert_reading.proofs.Lemmas.{then_where, past, first_lines, other_word}
use Rattle.cert_reading.proofs.Prelude.{refl, arith, true, false, Some, opening}
use Rattle.cert_reading.proofs.headings.first_line.Goals as goal

pub returns-in-0 : goal.returns-in-0
returns-in-0 c = λ names. then_where (other_word tt (λ here. c.choose.ensures.here here names opening first_lines refl refl)
    (rw c.in-0.is at (c.choose.ensures.chosen names opening first_lines refl refl))) (c.version_line-second.ensures names (Some true))

pub returns-in-1 : goal.returns-in-1
returns-in-1 c = λ names. then_where (other_word tt (λ here. c.choose.ensures.here here names opening first_lines refl refl)
    (rw c.in-1.is at (c.choose.ensures.chosen names opening first_lines refl refl))) (c.version_line-second-in-1.ensures names (Some false))

pub returns-in-2 : goal.returns-in-2
returns-in-2 c = λ names. other_word tt (λ here. c.choose.ensures.here here names opening first_lines refl refl) (rw c.in-2.is at (c.choose.ensures.chosen names opening first_lines refl refl))

pub returns-in-3 : goal.returns-in-3
returns-in-3 c = λ names. other_word tt (λ here. c.choose.ensures.here here names opening first_lines refl refl) (rw c.in-3.is at (c.choose.ensures.chosen names opening first_lines refl refl))

pub returns-in_default : goal.returns-in_default
returns-in_default c = λ names. other_word tt (λ here. c.choose.ensures.here here names opening first_lines refl refl)
    (past names c.args.end opening first_lines _ _ _ _ _ (let other = c.in_default in omega (arith, other)) (c.choose.ensures.chosen names opening first_lines refl refl))
