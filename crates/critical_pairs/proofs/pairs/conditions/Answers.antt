use Rattle.std.proofs.Common.{ap, sym, subst, Ok, Err, map}
use Rattle.rewriting.specs.Substitutions.{values_of}
use Rattle.term_core.specs.RuleView.{condition_view}
use Rattle.critical_pairs.specs.Building.{InstancesAnswers, ConditionsAnswers}
use Rattle.critical_pairs.proofs.Conditions.{both_added}
use Rattle.term_core.proofs.Rules.{handed_on}
use Rattle.critical_pairs.proofs.Sizes.{first_error, second_error, same_conditions}
use Rattle.critical_pairs.proofs.pairs.conditions.Goals as goal

pub returns-in_err-instances : goal.returns-in_err-instances
returns-in_err-instances c =
    let m = values_of c.args.m.now in
    let cs = map condition_view c.args.inner.now.conds.items in
    let ds = map condition_view c.args.outer.now.conds.items in
    let start = map condition_view c.new-out.result.items in
    let middle = map condition_view c.instances.new.out.items in
    subst (ConditionsAnswers m cs ds) (sym (handed_on _ _ c.from_residual.ensures.1))
    (first_error m cs ds start middle _ (same_conditions m cs _ start middle (Err c.in_err-instances.field-0.0) (ap (map condition_view) c.deref.ensures.value) c.in_err-instances.ensures))

pub returns : goal.returns
returns c =
    let m = values_of c.args.m.now in
    let cs = map condition_view c.args.inner.now.conds.items in
    let ds = map condition_view c.args.outer.now.conds.items in
    let start = map condition_view c.new-out.result.items in
    let middle = map condition_view c.instances.new.out.items in
    let end = map condition_view c.instances-2.new.out.items in
    both_added m cs ds start middle end (ap (map condition_view) c.new-out.ensures.items)
    (subst (λ z. InstancesAnswers m (map condition_view z) start middle (Ok tt)) c.deref.ensures.value c.in_ok-instances.ensures)
    (subst (λ z. InstancesAnswers m (map condition_view z) middle end (Ok tt)) c.deref-2.ensures.value c.in_ok-instances-2.ensures)

pub returns-in_err-instances-2 : goal.returns-in_err-instances-2
returns-in_err-instances-2 c =
    let m = values_of c.args.m.now in
    let cs = map condition_view c.args.inner.now.conds.items in
    let ds = map condition_view c.args.outer.now.conds.items in
    let middle = map condition_view c.instances.new.out.items in
    let end = map condition_view c.instances-2.new.out.items in
    subst (ConditionsAnswers m cs ds) (sym (handed_on _ _ c.from_residual-in_err-instances-2.ensures.1))
    (second_error m cs ds middle end _ (same_conditions m ds _ middle end (Err c.in_err-instances-2.field-0.0) (ap (map condition_view) c.deref-2.ensures.value) c.in_err-instances-2.ensures))
