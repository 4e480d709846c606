use Rattle.std.proofs.lemmas.Bool.{false≢true}
use Rattle.certificates.proofs.Blames.{blamed_outside}
use Rattle.ctrs_classes.proofs.classes.holds.Goals as goal

pub returns-in-Some : goal.returns-in-Some
returns-in-Some c = (λ e. absurd (false≢true e), λ all. absurd (blamed_outside _ _ _ c.in-Some.ensures.1 c.in-Some.ensures.0 all))
