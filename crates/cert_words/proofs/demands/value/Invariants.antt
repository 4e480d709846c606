use Rattle.cert_words.proofs.Judging.{ValueOn}
use Rattle.cert_words.proofs.demands.value.Given as goal

abbrev pub invariant-digits : goal.invariant-digits
invariant-digits l = ValueOn l.digits l.b-index l.value
