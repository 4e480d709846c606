use Rattle.std.proofs.Common.{subst, get_or}
use Rattle.rewriting.specs.Terms.{Fits}
use Rattle.unifier_run.proofs.Renamed.{fits_without_names}
use Rattle.term_core.specs.View.{view}
use Rattle.irreducible.proofs.Large.{few_variables}
use Rattle.irreducible.proofs.Renumbered.{judged_numbered}
use Rattle.irreducible.proofs.judge_numbered.Goals as goal

pub judge_small-requires-clause-fits : goal.judge_small-requires-clause-fits
judge_small-requires-clause-fits c = fits_without_names (λ m. get_or c.numbered.new.self m 0) (view c.in_ok-small.small) (subst Fits c.in_ok-small.ensures.names c.requires)

pub judge_small-requires-clause-small : goal.judge_small-requires-clause-small
judge_small-requires-clause-small c = λ k o. few_variables (view c.args.t.now) c.new-numbering.result c.numbered.new.self k c.requires c.new-numbering.ensures
    c.in_ok-small.ensures.row (c.in_ok-small.ensures.below k o)

pub returns : goal.returns
returns c = judged_numbered c.args.sys.now c.numbered.new.self (view c.args.t.now) (view c.in_ok-small.small) c.judge_small.result c.in_ok-small.ensures.distinct
    c.in_ok-small.ensures.names c.in_ok-small.ensures.below c.judge_small.ensures
