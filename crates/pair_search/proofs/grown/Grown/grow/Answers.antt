use Rattle.std.proofs.Common.{◌≡◌, map, Some, refl, sym, ap, ◌∙◌, subst}
use Rattle.certificates.specs.Judging.{hypothesis_at}
use Rattle.term_core.specs.RuleView.{condition_view}
use Rattle.critical_pairs.specs.View.{overlap_view}
use Rattle.pair_search.proofs.Growing.{item_answers, known}
use Rattle.pair_search.proofs.grown.Grown.grow.Goals as goal

pub returns-in-Some-last-clause-answer : goal.returns-in-Some-last-clause-answer
returns-in-Some-last-clause-answer c = λ kind.
    let k = c.args.number in
    let tried = c.in-Some-last.tried in
    let there = subst (λ cs. hypothesis_at (map condition_view cs) k ≡ Some (condition_view tried.cond)) c.deref.ensures.value
    (sym c.in-Some.ensures ∙ ap Some (c.if-is_same_condition.ensures refl)) in
    item_answers kind c.args.sys.now (overlap_view c.args.overlap.now) k (condition_view tried.cond) there tried.automaton
    (known c.args.sys.now c.self.inside c.args.self.now tried c.self.view_is c.in-Some-last.is c.requires.knows) c.evidence_by.result c.evidence_by.ensures
