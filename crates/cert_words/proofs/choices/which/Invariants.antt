use Rattle.cert_words.proofs.Prelude.{map, bare, Missed}
use Rattle.cert_words.proofs.choices.which.Given as goal

abbrev pub invariant-leads : goal.invariant-leads
invariant-leads l = Missed l.fn.left l.place (map bare l.fn.leads)
