use Rattle.std.proofs.Common.{◌≡◌, ◌∙◌, map, ap, sym, subst, eq-eqb, arith}
use Rattle.std.proofs.Math.ListN.{drop_of_length-le}
use Rattle.std.proofs.lemmas.Bool.{false≢true}
use Rattle.std.proofs.lemmas.List.{length-map}
use Rattle.std.specs.Vec.{vec_len}
use Rattle.reach_lists.specs.Laws.{EachOf}
use Rattle.term_core.specs.RuleView.{rule_view, condition_view}
use Rattle.reach.specs.Ready.{HasConditions}
use Rattle.general_lemmas.proofs.Places.{map-drop_read}
use Rattle.reach.proofs.sites.have_conditions.Goals as goal

pub rules-preserved : goal.rules-preserved
rules-preserved c = λ later.
    let conds = c.rule-item.result.conds in
    let some : HasConditions (rule_view c.rule-item.result) =
    λ e. (let many = length-map conds.items condition_view in let none : vec_len conds ≡ 0 = omega (arith, e, many) in false≢true (c.if-is_empty.ensures ∙ eq-eqb (vec_len conds) 0 none)) in
    c.rules.invariant (subst (EachOf HasConditions) (sym (map-drop_read rule_view c.args.rules.now c.rules.rule-index c.rule-item.result c.rules-test.true c.rule-item.is)) (some, later))

pub returns : goal.returns
returns c = λ _. c.rules.invariant (subst (EachOf HasConditions) (sym (ap (map rule_view) (drop_of_length-le c.args.rules.now c.rules-test.false))) tt)
