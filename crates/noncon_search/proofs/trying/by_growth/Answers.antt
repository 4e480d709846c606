use Rattle.std.proofs.Common.{Ok, map, subst}
use Rattle.term_core.specs.RuleView.{condition_view}
use Rattle.cert_model.specs.EvidenceView.{automaton_view}
use Rattle.evidence_offers.specs.Growth.{ValidGrowthAnswers}
use Rattle.noncon_search.proofs.Firsts.{growth_refutes, growth_gives_none}
use Rattle.noncon_search.proofs.trying.by_growth.Goals as goal

pub returns-in-Some : goal.returns-in-Some
returns-in-Some c =
    let cs = map condition_view c.args.conds.now in
    let gives = subst (λ s. ValidGrowthAnswers s cs c.args.cond (Ok c.in_ok-automaton.field-0)) c.system.ensures c.in_ok-automaton.ensures in
    growth_refutes c.args.sys.now cs c.args.cond c.requires.fit (automaton_view c.in-Some.automaton) (rw c.in-Some.is at gives)

pub returns-in-None : goal.returns-in-None
returns-in-None c =
    let cs = map condition_view c.args.conds.now in
    let gives = subst (λ s. ValidGrowthAnswers s cs c.args.cond (Ok c.in_ok-automaton.field-0)) c.system.ensures c.in_ok-automaton.ensures in
    growth_gives_none c.args.sys.now cs c.args.cond c.requires.fit (rw c.in-None.is at gives)
