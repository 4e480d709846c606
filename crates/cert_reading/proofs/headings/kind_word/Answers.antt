use Rattle.cert_reading.proofs.Lemmas.{other_place}
use Rattle.cert_reading.proofs.Prelude.{refl, body}
use Rattle.cert_reading.proofs.headings.kind_word.Goals as goal

pub returns : goal.returns
returns c = λ names v. c.kind_among.ensures names v (body v c.args.given) refl refl (other_place (body v c.args.given) _ tt)
