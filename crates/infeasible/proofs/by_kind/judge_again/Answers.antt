use Rattle.std.proofs.Common.{subst, sym, None}
use Rattle.term_core.specs.RuleView.{condition_view}
use Rattle.cert_model.specs.EvidenceView.{automaton_view}
use Rattle.automata.specs.Evidence.{IsClosureJudged}
use Rattle.infeasible.proofs.Known.{is_closed}
use Rattle.infeasible.proofs.by_kind.judge_again.Goals as goal

pub refutes_closed-requires-clause-closed : goal.refutes_closed-requires-clause-closed
refutes_closed-requires-clause-closed c =
    subst (λ s. IsClosureJudged s (automaton_view c.args.evidence.now.automaton.now) None) (sym c.system.ensures)
    (is_closed c.args.sys.now (condition_view c.args.known.now.cond) (automaton_view c.args.known.now.automaton) (automaton_view c.args.evidence.now.automaton.now) c.requires.same c.requires.known)
