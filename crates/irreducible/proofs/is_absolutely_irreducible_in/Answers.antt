use Rattle.term_core.specs.View.{view}
use Rattle.irreducible.proofs.Parts.{judged_whole}
use Rattle.irreducible.proofs.is_absolutely_irreducible_in.Goals as goal

pub returns : goal.returns
returns c = judged_whole c.args.sys.now (view c.args.t.now) c.judge_any.result c.judge_any.ensures
