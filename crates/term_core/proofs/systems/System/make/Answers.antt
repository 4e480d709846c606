use Rattle.std.proofs.Common.{◌≡◌, sym, subst, map, ◌+◌, ◌<◌, ◌^◌, IsErrAnd}
use Rattle.std.proofs.lemmas.List.{length-map}
use Rattle.rewriting.specs.Systems.{condition_count}
use Rattle.term_core.specs.RuleView.{rule_view}
use Rattle.term_core.specs.SystemView.{MakeAnswers}
use Rattle.term_core.proofs.Rules.{sound_rules, sound_counted, handed_on}
use Rattle.term_core.proofs.systems.System.make.Goals as goal

pub returns-in_err-first_fault-clause-answer : goal.returns-in_err-first_fault-clause-answer
returns-in_err-first_fault-clause-answer c =
    let fault = c.in_err-first_fault.field-0.0 in
    let same : IsErrAnd c.from_residual.result (λ e. e ≡ fault) = c.from_residual.ensures.1 in
    let found = c.in_err-first_fault.ensures {u = tt} in
    let why = rw (c.deref.ensures.value, c.deref-2.ensures.value) at found in
    subst (MakeAnswers c.args.arities.items c.args.rules.items) (sym (handed_on c.from_residual.result fault same)) why

pub invariant_of-result : goal.invariant_of-result
invariant_of-result c =
    let a = c.args.arities.items in
    let rs = c.args.rules.items in
    let all = rw (c.deref.ensures.value, c.deref-2.ensures.value) at c.in_ok-first_fault.ensures in
    let few = subst (λ n. n + condition_count (map rule_view rs) < 2 ^ 31) (sym (length-map rs rule_view)) c.requires.few_rules in record {
      system = record { rules = sound_rules a rs all; few_symbols = c.requires.few_symbols; few_rules = few };
      counted = sound_counted a rs all;
    }
