use Rattle.std.proofs.Common.{get_or, ◌-◌, refl, sym, subst}
use Rattle.std.proofs.Math.ListN.{drop_of_length-le}
use Rattle.rewriting.specs.Rules.{rule_at}
use Rattle.rule_index.proofs.Numbers.{number_some, number_low, rule_is}
use Rattle.reach_lists.specs.Laws.{EachOf}
use Rattle.term_core.specs.View.{view}
use Rattle.reach.specs.Quiet.{IsWithoutConditions}
use Rattle.reach.proofs.Places.{drop_number}
use Rattle.reach.proofs.Quiet.{no_conditions}
use Rattle.reach.proofs.sites.Search.is_bare.Goals as goal

pub numbers-init : goal.numbers-init
numbers-init c = λ h. subst (EachOf (λ i. IsWithoutConditions (rule_at c.args.self.now.sys.now i))) c.rules_at-numbers.ensures h

pub overflow_sub-number : goal.overflow_sub-number
overflow_sub-number c =
    let sys = c.args.self.now.sys.now in
    (number_low sys c.args.self.now.rules.now c.requires.ready.rules_are _ (number_some sys (view c.args.part.now) _ _ c.rules_at-numbers.ensures c.numbers-test.true)).0

pub bounds-self-number : goal.bounds-self-number
bounds-self-number c =
    let sys = c.args.self.now.sys.now in
    (number_low sys c.args.self.now.rules.now c.requires.ready.rules_are _ (number_some sys (view c.args.part.now) _ _ c.rules_at-numbers.ensures c.numbers-test.true)).1

pub numbers-preserved : goal.numbers-preserved
numbers-preserved c = λ later.
    let sys = c.args.self.now.sys.now in
    let ns = c.rules_at-numbers.result.now in
    let some = number_some sys (view c.args.part.now) _ _ c.rules_at-numbers.ensures c.numbers-test.true in
    let bare = subst IsWithoutConditions (sym (rule_is sys c.args.self.now.rules.now c.requires.ready.rules_are _ some c.index-self-number.result))
    (no_conditions (get_or c.args.self.now.rules.now (get_or ns c.numbers.number-index 0 - 1) c.index-self-number.result) (sym c.if-not-is_empty.ensures)) in
    c.numbers.invariant (subst (EachOf (λ i. IsWithoutConditions (rule_at sys i))) (sym (drop_number ns c.numbers.number-index _ c.numbers-test.true refl)) (bare, later))

pub returns : goal.returns
returns c = λ _. c.numbers.invariant (subst (EachOf (λ i. IsWithoutConditions (rule_at c.args.self.now.sys.now i))) (sym (drop_of_length-le c.rules_at-numbers.result.now c.numbers-test.false)) tt)
