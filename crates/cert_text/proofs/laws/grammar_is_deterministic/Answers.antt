use Rattle.cert_laws.proofs.AlikePaths.{alike_skeletons}
use Rattle.cert_text.proofs.laws.grammar_is_deterministic.Goals as goal

pub returns : goal.returns
returns c = alike_skeletons
