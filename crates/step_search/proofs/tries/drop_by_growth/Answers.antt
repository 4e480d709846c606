use Rattle.std.proofs.Common.{List, Ok, map, length, sym, ap, subst, subst₂, arith}
use Rattle.rewriting.specs.Rules.{System}
use Rattle.term_core.specs.declared.systems.Cond.{Cond}
use Rattle.certificates.specs.Sizes.{DoConditionsFit}
use Rattle.cert_model.specs.EvidenceView.{automaton_view}
use Rattle.evidence_offers.specs.Growth.{ValidGrowthAnswers}
use Rattle.term_core.specs.RuleView.{condition_view, rule_view}
use Rattle.step_search.proofs.Known.{conds_fit, few_conds, growth_drops, growth_drops_none}
use Rattle.step_search.proofs.tries.drop_by_growth.Goals as goal

pub valid_growth-requires-clause-few : goal.valid_growth-requires-clause-few
valid_growth-requires-clause-few c =
    let few = few_conds c.args.sys.now c.args.number c.args.rule.now c.rules_are_sound.ensures c.requires in
    let same = ap length c.deref.ensures.value in
    omega (arith, few, same)

pub valid_growth-requires-clause-fit : goal.valid_growth-requires-clause-fit
valid_growth-requires-clause-fit c =
    subst (λ z. DoConditionsFit (map condition_view z)) (sym c.deref.ensures.value) (conds_fit c.args.sys.now c.args.number c.args.rule.now c.rules_are_sound.ensures c.requires)

pub returns-in-Some : goal.returns-in-Some
returns-in-Some c =
    let gives = subst₂ (λ (s : System) (z : List Cond). ValidGrowthAnswers s (map condition_view z) c.args.cond (Ok c.in_ok-automaton.field-0)) c.system.ensures
    c.deref.ensures.value c.in_ok-automaton.ensures in
    growth_drops c.args.sys.now c.args.number c.args.cond (rule_view c.args.rule.now) c.requires (automaton_view c.in-Some.automaton) (rw c.in-Some.is at gives) c.dropping.result c.dropping.ensures

pub returns-in-None : goal.returns-in-None
returns-in-None c =
    let gives = subst₂ (λ (s : System) (z : List Cond). ValidGrowthAnswers s (map condition_view z) c.args.cond (Ok c.in_ok-automaton.field-0)) c.system.ensures
    c.deref.ensures.value c.in_ok-automaton.ensures in
    growth_drops_none c.args.sys.now c.args.number c.args.cond (rule_view c.args.rule.now) c.requires (rw c.in-None.is at gives)
