use Rattle.std.proofs.Common.{◌≡◌, length, subst, sym, slice_get, Some}
use Rattle.std.proofs.lemmas.Bool.{ltb-true}
use Rattle.term_core.specs.RuleView.{rule_view}
use Rattle.critical_pairs.specs.Offers.{DoesPass}
use Rattle.critical_pairs.specs.Cursors.{rest_of, IsCursor}
use Rattle.critical_pairs.proofs.Passing.{pass_more, pass_same}
use Rattle.critical_pairs.proofs.Rests.{cursor_kept, entered, entered_cursor, rule_there, left_fits}
use Rattle.critical_pairs.proofs.cursor.Cursor.settle.Goals as goal
use Rattle.critical_pairs.proofs.cursor.Cursor.settle.Goals.{In-Some-get, After-settle_in_rule}

-- up to the outer rule's end
passed : (c : After-settle_in_rule) → DoesPass c.args.sys.now (rest_of c.args.sys.now c.args.self.now) (rest_of c.args.sys.now c.settle_in_rule.new.self)
passed c = pass_more c.args.sys.now (rest_of c.args.sys.now c.args.self.now) (rest_of c.args.sys.now c.rules.self) _ c.rules.invariant.passes c.settle_in_rule.ensures.passes

-- the next outer rule
rule : (c : In-Some-get) → slice_get c.args.sys.now.rules c.settle_in_rule.new.self.outer ≡ Some (rule_view c.in-Some-get.rule.now)
rule c = rule_there c.rules-in-rules.result.now _ c.settle_in_rule.new.self.outer c.in-Some-get.rule.now c.rules-in-rules.ensures.rules
    (ltb-true c.settle_in_rule.new.self.outer (length c.rules-in-rules.result.now) (sym c.in-Some-get.ensures.lookup.0)) c.in-Some-get.ensures.lookup.1

pub returns-in-Some-clause-passes : goal.returns-in-Some-clause-passes
returns-in-Some-clause-passes c = passed (goal.at.returns-in-Some-clause-passes c).After-settle_in_rule

pub returns-in_default-get-clause-passes : goal.returns-in_default-get-clause-passes
returns-in_default-get-clause-passes c = passed (goal.at.returns-in_default-get-clause-passes c).After-settle_in_rule

pub enter-requires-clause-fits : goal.enter-requires-clause-fits
enter-requires-clause-fits c = left_fits c.args.sys.now c.settle_in_rule.new.self.outer (rule_view c.in-Some-get.rule.now) c.requires.sound (rule (goal.at.enter-requires-clause-fits c).In-Some-get)

pub rules-preserved : goal.rules-preserved
rules-preserved c =
    let sys = c.args.sys.now in
    let before = c.settle_in_rule.new.self in
    let is : IsCursor sys before = cursor_kept sys c.rules.self before c.rules.invariant.cursor c.settle_in_rule.ensures.outer c.settle_in_rule.ensures.places in
    let next = rule (goal.at.rules-preserved c).In-Some-get in
    record {
      cursor = entered_cursor sys before c.enter.new.self (rule_view c.in-Some-get.rule.now) next c.in_ok-enter.ensures;
      passes =
          pass_more sys (rest_of sys c.args.self.now) (rest_of sys before) (rest_of sys c.enter.new.self) (passed (goal.at.rules-preserved c).After-settle_in_rule)
          (pass_same sys (rest_of sys before) (rest_of sys c.enter.new.self)
          (entered sys before c.enter.new.self (rule_view c.in-Some-get.rule.now) is c.in_default.ensures.answer next c.in_ok-enter.ensures));
    }

pub returns-in_err-enter-clause-passes : goal.returns-in_err-enter-clause-passes
returns-in_err-enter-clause-passes c =
    subst (λ z. DoesPass c.args.sys.now (rest_of c.args.sys.now c.args.self.now) (rest_of c.args.sys.now z)) (sym c.in_err-enter.ensures)
    (passed (goal.at.returns-in_err-enter-clause-passes c).After-settle_in_rule)
