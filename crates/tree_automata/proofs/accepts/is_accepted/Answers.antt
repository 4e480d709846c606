use Rattle.term_core.specs.View.{view}
use Rattle.cert_model.specs.EvidenceView.{automaton_view}
use Rattle.tree_automata.proofs.Accepted.{accepted_is}
use Rattle.tree_automata.proofs.accepts.is_accepted.Goals as goal

pub returns : goal.returns
returns c =
    accepted_is (automaton_view c.args.a.now) c.args.index.now (view c.args.t.now) c.in_ok-reached.reached c.is_one_accepting.result c.requires c.in_ok-reached.ensures c.is_one_accepting.ensures
