use Rattle.std.proofs.lemmas.Bool.{false≢true}
use Rattle.term_core.proofs.Numbered.{numbered_where, not_numbered}
use Rattle.term_core.proofs.soundness.is_numbered.Goals as goal

pub returns-in-Some : goal.returns-in-Some
returns-in-Some c = numbered_where c.args.rule.now c.in-Some.count c.in-Some.ensures.some

pub returns-in-None : goal.returns-in-None
returns-in-None c = (λ no. absurd (false≢true no), λ h. absurd (not_numbered c.args.rule.now c.in-None.ensures.none h))
