use Rattle.cert_reading.proofs.Lemmas.{read_on}
use Rattle.cert_reading.proofs.Prelude.{refl}
use Rattle.cert_reading.proofs.lines.between_numbers.Goals as goal

pub returns : goal.returns
returns c = λ names.
    read_on (c.text.ensures.read names _ _ refl) (read_on (c.number-first.ensures.read names _ _ refl) (read_on (c.text-2.ensures.read names _ _ refl)
    (read_on (c.position-pos.ensures names _ _ refl) (read_on (c.text-3.ensures.read names _ _ refl) (read_on (c.number-second.ensures.read names _ _ refl) (c.text-4.ensures.read names _ _ refl))))))
