use Rattle.term_core.specs.View.{view}
use Rattle.evidence_offers.proofs.Growing.{growth_given, growth_refused}
use Rattle.evidence_offers.proofs.growth.grown.Goals as goal

pub returns-in-Ok : goal.returns-in-Ok
returns-in-Ok c =
    growth_given c.args.sys.now (view c.args.s.now) c.in-Ok.automaton c.in-Ok.ensures.grown c.in-Ok.ensures.closed

pub returns-in-Err : goal.returns-in-Err
returns-in-Err c =
    growth_refused c.args.sys.now (view c.args.s.now) c.in-Err.e c.no_automaton.result c.in-Err.ensures.grown c.no_automaton.ensures
