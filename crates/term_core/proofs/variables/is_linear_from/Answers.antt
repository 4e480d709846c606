use Rattle.rewriting.specs.Variables.{occurrences}
use Rattle.term_core.specs.View.{view}
use Rattle.term_core.proofs.Counting.{counted_once, counted_twice}
use Rattle.term_core.proofs.variables.is_linear_from.Goals as goal

pub returns-clause-yes : goal.returns-clause-yes
returns-clause-yes c = λ yes. counted_once (λ x. occurrences x (view c.args.t.now)) 1024 c.args.from c.mark_all.new.seen (c.mark_all.ensures.yes yes)

pub returns-clause-no : goal.returns-clause-no
returns-clause-no c = λ no. counted_twice (λ x. occurrences x (view c.args.t.now)) 1024 c.args.from (c.mark_all.ensures.no no)
