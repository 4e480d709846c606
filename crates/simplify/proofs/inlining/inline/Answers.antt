use Rattle.std.proofs.Common.{◌-◌, ◌+◌, ◌++◌, ◌<◌, ◌^◌, Ok, Err, sym, ap₂, ◌∙◌, subst, subst₂, length, map, take, drop, List}
use Rattle.rewriting.specs.Prelude.{sides, Each, rule_variables, Fits}
use Rattle.term_core.specs.Prelude.{view, condition_view}
use Rattle.term_core.specs.RuleView.{rule_view}
use Rattle.term_core.proofs.Rules.{handed_on}
use Rattle.term_core.specs.declared.systems.Cond.{Cond}
use Rattle.simplifications.specs.Inlining.{numbered}
use Rattle.simplify.specs.Rules.{rule_of}
use Rattle.simplify.specs.Inlining.{CondsAnswers, InlinedAnswers}
use Rattle.simplify.proofs.Instances.{bound_once, large_right, large_conds, rest_fit, made_few, made_answer}
use Rattle.simplify.proofs.inlining.inline.Goals as goal

pub returns-in_err-right : goal.returns-in_err-right
returns-in_err-right c =
    subst (InlinedAnswers (rule_view c.args.rule.now) c.args.place c.args.x) (sym (handed_on _ _ c.from_residual-in_err-right.ensures.1))
    (large_right c.args.rule.now c.args.place c.args.x c.index-cond.result.now c.requires.place c.index-cond.ensures c.bind.new.self
    (bound_once c.args.x _ _ _ _ c.in_ok-bind.ensures.ok c.new-values.ensures c.in_ok-try_clone.ensures) c.in_err-right.field-0.0 c.in_err-right.ensures)

pub push_instances-requires : goal.push_instances-requires
push_instances-requires c =
    subst (λ z. Each Fits (sides (map condition_view (take (length z - (c.args.place + 1)) (drop (c.args.place + 1) z))))) (sym c.deref.ensures.value)
    (rest_fit c.args.rule.now c.args.place c.args.x c.index-cond.result.now c.requires.place c.index-cond.ensures c.bind.new.self
    (bound_once c.args.x _ _ _ _ c.in_ok-bind.ensures.ok c.new-values.ensures c.in_ok-try_clone.ensures) c.requires.fits)

pub returns-in_err-push_instances : goal.returns-in_err-push_instances
returns-in_err-push_instances c =
    subst (InlinedAnswers (rule_view c.args.rule.now) c.args.place c.args.x) (sym (handed_on _ _ c.from_residual-in_err-push_instances.ensures.1))
    (large_conds c.args.rule.now c.args.place c.args.x c.index-cond.result.now c.requires.place c.index-cond.ensures c.bind.new.self
    (bound_once c.args.x _ _ _ _ c.in_ok-bind.ensures.ok c.new-values.ensures c.in_ok-try_clone.ensures) (map condition_view c.in_ok-behind.behind.items)
    (map condition_view c.push_instances.new.out.items) c.in_err-push_instances.field-0.0
    (subst (λ z. CondsAnswers c.bind.new.self (map condition_view (take (length z - (c.args.place + 1)) (drop (c.args.place + 1) z)))
    (map condition_view c.in_ok-behind.behind.items) (map condition_view c.push_instances.new.out.items) (Err c.in_err-push_instances.field-0.0))
    c.deref.ensures.value c.in_err-push_instances.ensures))

pub numbered-requires : goal.numbered-requires
numbered-requires c =
    subst₂ (λ (z y : List Cond). length (rule_variables
    (rule_of (view c.args.rule.now.left) (view c.in_ok-right.right) (map condition_view (take c.args.place z) ++ map condition_view y))) < 2 ^ 31)
    (sym c.deref-2.ensures.value) (sym c.deref-3.ensures.value)
    (made_few c.args.rule.now c.args.place c.args.x c.index-cond.result.now c.requires.place c.index-cond.ensures c.bind.new.self
    (bound_once c.args.x _ _ _ _ c.in_ok-bind.ensures.ok c.new-values.ensures c.in_ok-try_clone.ensures) c.requires.fits c.requires.few c.in_ok-right.right c.in_ok-right.ensures
    c.in_ok-behind.behind.items c.push_instances.new.out.items c.in_ok-behind.ensures.items
    (subst (λ z. CondsAnswers c.bind.new.self (map condition_view (take (length z - (c.args.place + 1)) (drop (c.args.place + 1) z)))
    (map condition_view c.in_ok-behind.behind.items) (map condition_view c.push_instances.new.out.items) (Ok tt))
    c.deref.ensures.value c.in_ok-push_instances.ensures))

pub returns : goal.returns
returns c =
    made_answer c.args.rule.now c.args.place c.args.x c.index-cond.result.now c.requires.place c.index-cond.ensures c.bind.new.self
    (bound_once c.args.x _ _ _ _ c.in_ok-bind.ensures.ok c.new-values.ensures c.in_ok-try_clone.ensures) c.requires.fits c.requires.few c.in_ok-right.right c.in_ok-right.ensures
    c.in_ok-behind.behind.items c.push_instances.new.out.items c.in_ok-behind.ensures.items
    (subst (λ z. CondsAnswers c.bind.new.self (map condition_view (take (length z - (c.args.place + 1)) (drop (c.args.place + 1) z)))
    (map condition_view c.in_ok-behind.behind.items) (map condition_view c.push_instances.new.out.items) (Ok tt))
    c.deref.ensures.value c.in_ok-push_instances.ensures)
    c.in_ok-numbered.field-0
    (c.in_ok-numbered.ensures.rule
    ∙ ap₂ (λ (z y : List Cond). numbered (rule_of (view c.args.rule.now.left) (view c.in_ok-right.right) (map condition_view (take c.args.place z) ++ map condition_view y)))
    c.deref-2.ensures.value c.deref-3.ensures.value)
    c.in_ok-numbered.ensures.count
