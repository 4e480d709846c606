use Rattle.rewriting.specs.Terms.{cons, nil}
use Rattle.term_core.specs.View.{view}
use Rattle.quasi_search.proofs.Pairs.{clash_told}
use Rattle.quasi_search.proofs.reducts.do_clash.Goals as goal

pub returns : goal.returns
returns c =
    clash_told (cons (view c.args.first.now.term) nil) (cons (view c.args.second.now.term) nil) c.in_ok-outcome.outcome c.is_clash.result c.in_ok-outcome.ensures c.is_clash.ensures
