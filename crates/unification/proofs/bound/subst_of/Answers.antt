use Rattle.std.proofs.Common.{ap, ◌∙◌, sym, arith, ◌<◌, length}
use Rattle.std.specs.FinMap.{insert}
use Rattle.term_core.specs.View.{view}
use Rattle.unification.proofs.Found.{no_map, next_map}
use Rattle.unification.proofs.bound.subst_of.Goals as goal

pub loop-i-init : goal.loop-i-init
loop-i-init c = c.new-subst.ensures ∙ sym (no_map c.args.found.now)

pub loop-i-preserved : goal.loop-i-preserved
loop-i-preserved c =
    let e = c.index-found-found.result in
    let i = c.loop-i.i in
    let within : i < length c.args.found.now = c.loop-i-test.true in
    c.in_ok-bind.ensures.ok
    ∙ (ap (λ m. insert m e.variable (view c.in_ok-instance.field-0)) c.loop-i.invariant
    ∙ next_map c.args.found.now i _ e (view c.in_ok-instance.field-0) c.requires within (omega (arith, within)) c.index-found-found.is c.in_ok-instance.ensures)
