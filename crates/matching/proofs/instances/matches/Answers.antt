use Rattle.matching.proofs.Shapes.{shape_of}
use Rattle.matching.proofs.SideBySide.{matches_where, agrees_where}
use Rattle.matching.proofs.instances.matches.Goals as goal

pub returns-then-not-has_shape : goal.returns-then-not-has_shape
returns-then-not-has_shape c = (λ h. absurd (cc), λ m. absurd (let yes = c.has_shape.ensures.1 (shape_of _ _ m) in let no = c.if-not-has_shape.true in cc))

pub returns : goal.returns
returns c = (λ h. matches_where _ _ (c.agrees.ensures.0 h), λ m. c.agrees.ensures.1 (agrees_where _ _ m))
