use Rattle.std.proofs.Common.{◌≡◌, ◌∙◌, ap, ap₂, sym, subst, map, length, ℕ, List, ◌++◌, ◌+◌, ◌<◌, ◌^◌, IsErrAnd}
use Rattle.std.proofs.lemmas.List.{length-map}
use Rattle.rewriting.specs.Systems.{condition_count, IsSystem}
use Rattle.term_core.specs.RuleView.{rule_view}
use Rattle.term_core.specs.SystemView.{AreSound}
use Rattle.term_core.specs.JoinAnswers.{WithRulesAnswers}
use Rattle.term_core.specs.declared.joins.JoinError.TheVariants.{Fault}
use Rattle.term_core.proofs.Rules.{sound_rules, sound_counted, handed_on}
use Rattle.term_core.proofs.systems.System.with_rules.Goals as goal

pub returns-in_err-first_fault-clause-answer : goal.returns-in_err-first_fault-clause-answer
returns-in_err-first_fault-clause-answer c =
    let fault = c.in_err-first_fault.field-0.0 in
    let same : IsErrAnd c.from_residual.result (λ e. e ≡ Fault fault) = c.from_residual.ensures.1 in
    let found = c.in_err-first_fault.ensures {u = tt} in
    let why = rw (c.deref.ensures.value, c.deref-2.ensures.value) at found in
    let shown : c.args.self.now.arities ≡ c.self.inside.arities.items = sym (ap (λ z. z.arities) c.self.view_is) in
    subst (WithRulesAnswers c.args.self.now c.args.rules.items) (sym (handed_on c.from_residual.result (Fault fault) same)) (rw shown why)

pub invariant_of-result : goal.invariant_of-result
invariant_of-result c =
    let a = c.self.inside.arities.items in
    let rs = c.args.rules.items in
    let shown : c.args.self.now.arities ≡ a = sym (ap (λ z. z.arities) c.self.view_is) in
    let copied : c.extend_from_slice.new.self.items ≡ a = c.in_ok-extend_from_slice.ensures.items ∙ ap₂ (λ (x y : List ℕ). x ++ y) c.in_ok-arities.ensures.items c.deref-3.ensures.value in
    let all : AreSound a rs = rw (c.deref.ensures.value, c.deref-2.ensures.value) at c.in_ok-first_fault.ensures in
    let few : length (map rule_view rs) + condition_count (map rule_view rs) < 2 ^ 31 =
    subst (λ n. n + condition_count (map rule_view rs) < 2 ^ 31) (sym (length-map rs rule_view)) c.requires.few_rules in
    let symbols : length a + condition_count (map rule_view rs) < 2 ^ 31 = subst (λ (xs : List ℕ). length xs + condition_count (map rule_view rs) < 2 ^ 31) shown c.requires.few_symbols in
    let system : IsSystem (record { arities = a; rules = map rule_view rs; own = c.self.inside.own }) = record { rules = sound_rules a rs all; few_symbols = symbols; few_rules = few } in record {
      system = subst (λ (xs : List ℕ). IsSystem (record { arities = xs; rules = map rule_view rs; own = c.self.inside.own })) (sym copied) system;
      counted = sound_counted a rs all;
    }
