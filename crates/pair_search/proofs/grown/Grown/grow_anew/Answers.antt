use Rattle.std.proofs.Common.{length, map, option_map, Ok, sym, ap, subst, arith}
use Rattle.certificates.specs.Sizes.{DoConditionsFit}
use Rattle.term_core.specs.RuleView.{condition_view}
use Rattle.cert_model.specs.EvidenceView.{automaton_view}
use Rattle.critical_pairs.specs.View.{overlap_view}
use Rattle.evidence_offers.specs.Growth.{GrowthGives}
use Rattle.pair_check.proofs.Ready.{ready, few_conditions}
use Rattle.pair_search.proofs.Growing.{gives_there, item_answers}
use Rattle.pair_search.proofs.grown.Grown.grow_anew.Goals as goal

pub valid_growth-requires-clause-few : goal.valid_growth-requires-clause-few
valid_growth-requires-clause-few c =
    let few = few_conditions c.args.sys.now c.args.overlap.now c.rules_are_sound.ensures c.requires.overlap in
    let same = ap length c.deref.ensures.value in
    omega (arith, few, same)

pub valid_growth-requires-clause-fit : goal.valid_growth-requires-clause-fit
valid_growth-requires-clause-fit c =
    let small = ready c.args.sys.now (overlap_view c.args.overlap.now) c.rules_are_sound.ensures c.requires.overlap in
    subst (λ cs. DoConditionsFit (map condition_view cs)) (sym c.deref.ensures.value) small.conditions

pub returns-clause-answer : goal.returns-clause-answer
returns-clause-answer c = λ kind.
    let cond = condition_view c.args.cond.now in
    let a = c.in_ok-automaton.automaton in
    let gives = gives_there c.args.sys.now c.system.result.now c.deref.result.now c.args.overlap.now.conds.items c.args.number cond a c.system.ensures c.deref.ensures.value
    c.requires.there c.in_ok-automaton.ensures in
    item_answers kind c.args.sys.now (overlap_view c.args.overlap.now) c.args.number cond c.requires.there a gives (Ok c.in_ok-answer.answer) c.in_ok-answer.ensures

pub returns-clause-knows : goal.returns-clause-knows
returns-clause-knows c =
    let cond = condition_view c.args.cond.now in
    let a = c.in_ok-automaton.automaton in
    let gives = gives_there c.args.sys.now c.system.result.now c.deref.result.now c.args.overlap.now.conds.items c.args.number cond a c.system.ensures c.deref.ensures.value
    c.requires.there c.in_ok-automaton.ensures in
    subst (λ d. GrowthGives c.args.sys.now d (option_map automaton_view a)) (sym c.in_ok-copied_condition.ensures) gives
