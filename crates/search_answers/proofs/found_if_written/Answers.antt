use Rattle.std.proofs.Common.{refl}
use Rattle.search_answers.proofs.found_if_written.Goals as goal

pub returns-then-branch : goal.returns-then-branch
returns-then-branch c = (refl, c.in_ok-has_text.ensures.0 c.if-branch.true)

pub returns-else-branch : goal.returns-else-branch
returns-else-branch c = λ t. (let e = c.in_ok-has_text.ensures.1 t in cc)
