use Rattle.std.proofs.Common.{◌∙◌, ap, subst, Ok}
use Rattle.rewriting.specs.Terms.{cons, nil}
use Rattle.unifier_run.specs.Run.{unifier, too_large}
use Rattle.rule_index.specs.Roots.{rules_with_root}
use Rattle.term_core.specs.View.{view}
use Rattle.unification.specs.Answers.{UnifyAnswers}
use Rattle.irreducible.proofs.Tried.{tried_none, number_low, number_high, tried_next, tried_all, first_tried}
use Rattle.irreducible.proofs.judging.judge_root.Goals as goal

pub loop-number-init : goal.loop-number-init
loop-number-init c = tried_none c.args.sys.now c.with_root-number-items.result.now (view c.args.part.now)

pub overflow_sub-inner : goal.overflow_sub-inner
overflow_sub-inner c =
    number_low c.args.sys.now c.args.f c.with_root-number-items.result.now c.inner_rules-inners.result.now (view c.args.part.now) c.loop-number.number-index
    c.inner_rules-inners.ensures.sound c.inner_rules-inners.ensures.rules
    (c.with_root-number-items.ensures ∙ ap (λ s. rules_with_root s c.args.f) c.indexed.ensures) c.loop-number-test.true

pub bounds-inners-number : goal.bounds-inners-number
bounds-inners-number c =
    number_high c.args.sys.now c.args.f c.with_root-number-items.result.now c.inner_rules-inners.result.now (view c.args.part.now) c.loop-number.number-index
    c.inner_rules-inners.ensures.sound c.inner_rules-inners.ensures.rules
    (c.with_root-number-items.ensures ∙ ap (λ s. rules_with_root s c.args.f) c.indexed.ensures) c.loop-number-test.true

pub returns-in-Mgu : goal.returns-in-Mgu
returns-in-Mgu c =
    let a = subst (λ z. UnifyAnswers (cons (view c.index-inners-number.result.left) nil) (cons (view c.args.part.now) nil) (Ok z)) c.in-Mgu.is c.in_ok-unify_terms.ensures in
    λ s e. (
      a.0.0,
      first_tried c.args.sys.now c.args.f c.with_root-number-items.result.now c.inner_rules-inners.result.now (view c.args.part.now) c.loop-number.number-index
          c.inner_rules-inners.ensures.sound c.inner_rules-inners.ensures.rules
          (c.with_root-number-items.ensures ∙ ap (λ s. rules_with_root s c.args.f) c.indexed.ensures) c.requires.root c.requires.fits c.index-inners-number.result
          (unifier a.0.0) c.loop-number-test.true c.index-inners-number.is c.loop-number.invariant a.0.1 s e,
    )

pub returns-in-TooLarge : goal.returns-in-TooLarge
returns-in-TooLarge c =
    let a = subst (λ z. UnifyAnswers (cons (view c.index-inners-number.result.left) nil) (cons (view c.args.part.now) nil) (Ok z)) c.in-TooLarge.is c.in_ok-unify_terms.ensures in
    first_tried c.args.sys.now c.args.f c.with_root-number-items.result.now c.inner_rules-inners.result.now (view c.args.part.now) c.loop-number.number-index
    c.inner_rules-inners.ensures.sound c.inner_rules-inners.ensures.rules
    (c.with_root-number-items.ensures ∙ ap (λ s. rules_with_root s c.args.f) c.indexed.ensures) c.requires.root c.requires.fits c.index-inners-number.result too_large
    c.loop-number-test.true c.index-inners-number.is c.loop-number.invariant a

pub loop-number-preserved : goal.loop-number-preserved
loop-number-preserved c =
    let a = subst (λ z. UnifyAnswers (cons (view c.index-inners-number.result.left) nil) (cons (view c.args.part.now) nil) (Ok z)) c.in-Clash.is c.in_ok-unify_terms.ensures in
    tried_next c.args.sys.now c.args.f c.with_root-number-items.result.now c.inner_rules-inners.result.now (view c.args.part.now) c.loop-number.number-index
    c.inner_rules-inners.ensures.sound c.inner_rules-inners.ensures.rules
    (c.with_root-number-items.ensures ∙ ap (λ s. rules_with_root s c.args.f) c.indexed.ensures) c.index-inners-number.result c.index-inners-number.is c.loop-number.invariant a.0

pub returns : goal.returns
returns c =
    tried_all c.args.sys.now c.args.f c.with_root-number-items.result.now c.inner_rules-inners.result.now (view c.args.part.now) c.loop-number.number-index
    c.inner_rules-inners.ensures.sound c.inner_rules-inners.ensures.rules
    (c.with_root-number-items.ensures ∙ ap (λ s. rules_with_root s c.args.f) c.indexed.ensures) c.requires.root c.requires.fits c.loop-number-test.false c.loop-number.invariant
