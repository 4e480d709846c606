use Rattle.cert_words.proofs.Prelude.{number_more}
use Rattle.cert_words.proofs.Scanning.{ScansOn}
use Rattle.cert_words.proofs.scans.digits.Given as goal

abbrev pub invariant-digits : goal.invariant-digits
invariant-digits l = ScansOn number_more l.fn.bytes number_more l.size
