use Rattle.std.proofs.Common.{◌∙◌, ◌++◌, ◌∷◌, [], sym, ap, ap₂, map}
use Rattle.std.proofs.lemmas.List.{map-append}
use Rattle.general_lemmas.proofs.Places.{map-take_read}
use Rattle.rewriting.specs.Overlaps.{conditions_under}
use Rattle.term_core.specs.RuleView.{condition_view}
use Rattle.unification.specs.Answers.{renaming}
use Rattle.prepared_system.proofs.Conditions.{left_occurs, right_occurs, under-append}
use Rattle.prepared_system.proofs.renaming.rename_conds.Goals as goal

pub renamed-requires : goal.renamed-requires
renamed-requires c = record { below = λ k o. c.requires k (left_occurs k _ c.loop-cond.cond-index _ c.loop-cond-test.true c.cond-item.is o) }

pub renamed-requires-in-loop-cond : goal.renamed-requires-in-loop-cond
renamed-requires-in-loop-cond c = record { below = λ k o. c.requires k (right_occurs k _ c.loop-cond.cond-index _ c.loop-cond-test.true c.cond-item.is o) }

pub loop-cond-preserved : goal.loop-cond-preserved
loop-cond-preserved c =
    let s = renaming 2 c.args.add in
    ap (map condition_view) c.in_ok-push.ensures.items
    ∙ (map-append condition_view _ _ ∙ (ap₂ (λ x y. x ++ y ∷ []) c.loop-cond.invariant (ap₂ (λ x y. record { left = x; right = y }) c.in_ok-left.ensures c.in_ok-right.ensures)
    ∙ (sym (under-append s _ _) ∙ ap (conditions_under s) (sym (map-take_read condition_view _ c.loop-cond.cond-index _ c.loop-cond-test.true c.cond-item.is)))))
