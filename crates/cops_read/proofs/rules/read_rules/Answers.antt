use Rattle.std.proofs.Common.{◌≡◌, ◌∙◌, ◌+◌, length, arith, ap, sym, add-one, length-append}
use Rattle.std.proofs.lemmas.List.{length_push}
use Rattle.std.specs.Vec.Iter.{into_iter_items}
use Rattle.cops_read.specs.RuleSteps.{RulesAnswers}
use Rattle.cops_read.proofs.Repeats.{rule_taken, all_left, rules_length, rules_fail, rules_step_as, rules_end_here}
use Rattle.cops_read.proofs.Firsts.{handed}
use Rattle.cops_read.proofs.rules.read_rules.Goals as goal

pub read_rule-requires-clause-text : goal.read_rule-requires-clause-text
read_rule-requires-clause-text c =
    let n = rule_taken c.args.texts.items c.rules.yielded (into_iter_items c.rules.text-iterator) c.in-Some.text (into_iter_items c.next.new.self) c.rules.invariant.left c.in-Some.ensures.steps.0
    c.requires.texts.0 c.requires.texts.1 in
    (n.item, n.is)

pub returns-in_err-rule-clause-rules : goal.returns-in_err-rule-clause-rules
returns-in_err-rule-clause-rules c trees h =
    let n = rule_taken c.args.texts.items c.rules.yielded (into_iter_items c.rules.text-iterator) c.in-Some.text (into_iter_items c.next.new.self) c.rules.invariant.left
    c.in-Some.ensures.steps.0 trees h in
    let number : c.len-in-rules.result ≡ length c.rules.yielded = c.len-in-rules.ensures ∙ c.rules.rules.ok.0 ∙ c.rules.invariant.number in
    let told = rw (c.rules.invariant.block, number) at (c.in_err-rule.ensures.rule n.item n.is) in
    handed (RulesAnswers c.args.scope.now.block c.args.has_type c.args.scope.now.names.symbols trees c.read_rule.new.scope.names.symbols c.read_rule.new.scope.names.variables)
    c.in_err-rule.field-0.0 c.from_residual-in_err-rule.result c.from_residual-in_err-rule.ensures.1
    (rules_fail (c.rules.invariant.read trees h) n c.in_err-rule.field-0.0 told)

pub rules-preserved : goal.rules-preserved
rules-preserved c = record {
  read = λ trees h.
      let n = rule_taken c.args.texts.items c.rules.yielded (into_iter_items c.rules.text-iterator) c.in-Some.text (into_iter_items c.next.new.self) c.rules.invariant.left
      c.in-Some.ensures.steps.0 trees h in
      let number : c.len-in-rules.result ≡ length c.rules.yielded = c.len-in-rules.ensures ∙ c.rules.rules.ok.0 ∙ c.rules.invariant.number in
      let next = rules_step_as (c.rules.invariant.read trees h) n c.rules.scope.block c.read_rule.new.scope.names.symbols c.read_rule.new.scope.names.variables
      c.in_ok-rule.rule c.rules.invariant.block (rw number at (c.in_ok-rule.ensures.rule n.item n.is)) in
      rw (length_push c.rules.yielded c.in-Some.text, add-one, c.in_ok-push.ensures.items) next;
  left = all_left c.args.texts.items c.rules.yielded (into_iter_items c.rules.text-iterator) c.in-Some.text (into_iter_items c.next.new.self) c.rules.invariant.left c.in-Some.ensures.steps.0;
  many = let before = c.rules.invariant.many in let gone = c.in-Some.ensures.steps.1 in let short = ap length c.in-Some.ensures.steps.0 in omega arith;
  number = ap length c.in_ok-push.ensures.items ∙ length_push c.rules.rules.items c.in_ok-rule.rule ∙ ap (λ n. n + 1) c.rules.invariant.number ∙ sym (length_push c.rules.yielded c.in-Some.text);
  listed = let one = c.in_ok-rule.ensures.one in let before = c.rules.invariant.listed in omega (arith, length_push c.rules.yielded c.in-Some.text);
  block = c.in_ok-rule.ensures.block ∙ c.rules.invariant.block;
}

pub returns-clause-rules : goal.returns-clause-rules
returns-clause-rules c trees h =
    let all = rules_length c.args.texts.items trees h in
    let split = ap length c.rules.invariant.left in
    let many = c.rules.invariant.many in
    let none = c.in-None.ensures.steps.0 in
    rules_end_here (c.rules.invariant.read trees h) (omega (arith, length-append c.rules.yielded (into_iter_items c.rules.text-iterator)))
