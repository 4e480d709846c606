use Rattle.std.proofs.Common.{◌≡◌, ◌∙◌, ◌+◌, ◌++◌, ◌∷◌, [], sym, ap, ap₂, map, subst, take, append_assoc}
use Rattle.std.proofs.lemmas.List.{map-append}
use Rattle.general_lemmas.proofs.Places.{map-take_read}
use Rattle.rewriting.specs.Prelude.{Fits, values_of, sides, Each, condition_under, conditions_under}
use Rattle.term_core.specs.RuleView.{condition_view}
use Rattle.prepared_system.proofs.Conditions.{under-append}
use Rattle.critical_pairs.proofs.Conditions.{both_fit, fit_append}
use Rattle.critical_pairs.specs.Building.{InstancesAnswers}
use Rattle.term_core.proofs.Rules.{handed_on}
use Rattle.critical_pairs.proofs.Sizes.{instances_error}
use Rattle.critical_pairs.proofs.pairs.instances.Goals as goal

pub instance-requires-clause-left : goal.instance-requires-clause-left
instance-requires-clause-left c = (both_fit _ c.loop-cond.cond-index _ c.loop-cond-test.true c.cond-item.is c.requires).0

pub instance-requires-clause-right : goal.instance-requires-clause-right
instance-requires-clause-right c = (both_fit _ c.loop-cond.cond-index _ c.loop-cond-test.true c.cond-item.is c.requires).1

pub returns-in_err-instance : goal.returns-in_err-instance
returns-in_err-instance c =
    let before = map condition_view c.args.out.now.items in
    let after = map condition_view c.loop-cond.out.items in
    subst (InstancesAnswers (values_of c.args.m.now) (map condition_view c.args.conds.now) before after) (sym (handed_on _ _ c.from_residual.ensures.1))
    (instances_error _ _ c.loop-cond.cond-index _ before after _ c.loop-cond-test.true c.cond-item.is c.in_err-instance.ensures)

pub loop-cond-preserved : goal.loop-cond-preserved
loop-cond-preserved c =
    let s = values_of c.args.m.now in
    let i = c.loop-cond.cond-index in
    let before = map condition_view c.args.out.now.items in
    let done = conditions_under s (map condition_view (take i c.args.conds.now)) in
    let next : done ++ condition_under s (condition_view c.cond-item.result) ∷ [] ≡ conditions_under s (map condition_view (take (i + 1) c.args.conds.now)) =
    sym (under-append s _ _) ∙ ap (conditions_under s) (sym (map-take_read condition_view _ i _ c.loop-cond-test.true c.cond-item.is)) in
    record {
      added =
          ap (map condition_view) c.in_ok-push.ensures.items
          ∙ (map-append condition_view _ _ ∙ (ap₂ (λ x y. x ++ y ∷ []) c.loop-cond.invariant.added c.in_ok-instance.ensures.0
          ∙ (append_assoc before done (condition_under s (condition_view c.cond-item.result) ∷ []) ∙ ap (λ z. before ++ z) next)));
      fit = subst (λ z. Each Fits (sides z)) next (fit_append _ _ c.loop-cond.invariant.fit (c.in_ok-instance.ensures.1, (c.in_ok-instance.ensures.2, tt)));
    }
