use Rattle.std.proofs.Common.{codes}
use Rattle.std.proofs.lemmas.Bool.Decides.{Decides-eqb}
use Rattle.std.proofs.lemmas.Slice.Eq.{starts_is}
use Rattle.ari_text.proofs.Written.{typed}
use Rattle.ari_text.proofs.writing.is_typed.Goals as goal

pub returns : goal.returns
returns c = typed c.args.text.now c.starts_with.result (starts_is Decides-eqb c.args.text.now (codes "(CONDITIONTYPE ORIENTED)\n") c.starts_with.result c.starts_with.ensures.value)
