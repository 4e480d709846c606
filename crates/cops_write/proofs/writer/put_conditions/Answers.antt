use Rattle.std.proofs.Common.{◌++◌, List, map, codes, refl}
use Rattle.term_core.specs.declared.systems.Cond.{Cond}
use Rattle.term_core.specs.RuleView.{condition_view}
use Rattle.cops_write.specs.Text.{condition_text, others_text}
use Rattle.cops_write.proofs.Growing.{both, next_of}
use Rattle.cops_write.proofs.Members.{conditions_begin}
use Rattle.cops_write.proofs.writer.put_conditions.Goals as goal

pub others-init : goal.others-init
others-init c = conditions_begin _ _ _ _ c.in-len1-up.len_at_least c.first-item.is c.in_ok-put.ensures c.in_ok-put_condition.ensures

pub others-preserved : goal.others-preserved
others-preserved c =
    let text = λ (xs : List Cond). others_text c.args.names.now c.args.rule (map condition_view xs) in
    next_of text text (λ (x : Cond). codes ", " ++ condition_text c.args.names.now c.args.rule (condition_view x)) (λ x xs. refl) _ _ _ c.others-test.true c.cond-item.is
    c.others.invariant (both c.in_ok-put-2.ensures c.in_ok-put_condition-2.ensures)
