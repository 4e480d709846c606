use Rattle.cert_words.proofs.Fronts.{LongestOn}
use Rattle.cert_words.proofs.leads.longest.Given as goal

abbrev pub invariant-leads : goal.invariant-leads
invariant-leads l = LongestOn l.leads l.left l.lead-index l.most
