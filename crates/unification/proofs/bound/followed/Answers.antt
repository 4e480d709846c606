use Rattle.std.proofs.Common.{ℕ, ◌≡◌, ◌+◌, ap, ◌∙◌, sym, subst, take}
use Rattle.rewriting.specs.Terms as math
use Rattle.rewriting.specs.Substitutions.{apply}
use Rattle.unifier_run.specs.Run.{value}
use Rattle.term_core.specs.View.{view}
use Rattle.term_core.proofs.Views.{view-Var}
use Rattle.unification.specs.Solving.{bindings, IsHead}
use Rattle.unification.proofs.Found.{follows, next_head_bound, next_head_other}
use Rattle.unification.proofs.bound.followed.Goals as goal
use Rattle.unification.proofs.bound.followed.Goals.{then-bound-variable+in-Var, else-bound-variable}

pub returns-in-Fun-clause-same : goal.returns-in-Fun-clause-same
returns-in-Fun-clause-same c =
    follows c.args.found.now c.loop-bound.bound-index c.bound-item.result _ _ c.requires.turns c.loop-bound-test.true c.bound-item.is
    (c.loop-bound.invariant.variable ∙ ap math.var (sym c.if-bound-variable.true)) c.loop-bound.invariant.same

pub loop-bound-preserved : goal.loop-bound-preserved
loop-bound-preserved c =
    let es = c.args.found.now in
    let i = c.loop-bound.bound-index in
    let e = c.bound-item.result in
    let before = c.loop-bound.invariant in
    elim c.if-bound-variable.branch [
      | then-bound-variable+in-Var w ↦ record {
        variable = ap (λ z. view z.now) w.head-is ∙ (ap view w.in-Var.is ∙ (view-Var _ ∙ ap math.var (sym w.variable-is)));
        head = subst (λ z. IsHead (bindings (take (i + 1) es)) (view z.now)) (sym w.head-is) (next_head_bound es i e c.requires.turns c.loop-bound-test.true c.bound-item.is);
        same = ap (λ z. apply (value (bindings es)) (view z.now)) w.head-is ∙ follows es i e _ _ c.requires.turns c.loop-bound-test.true c.bound-item.is
            (before.variable ∙ ap math.var (sym w.if-bound-variable.true)) before.same;
      }
      | else-bound-variable w ↦ record {
        variable = ap (λ z. view z.now) w.head-is ∙ (before.variable ∙ ap math.var (sym w.variable-is));
        head = subst (λ z. IsHead (bindings (take (i + 1) es)) (view z.now)) (sym w.head-is)
            (next_head_other es i e _ c.requires.turns c.loop-bound-test.true c.bound-item.is before.head
            (λ q. w.if-bound-variable.false (same_variable _ _ (sym q ∙ before.variable))));
        same = ap (λ z. apply (value (bindings es)) (view z.now)) w.head-is ∙ before.same;
      }
    ]
  where
    same_variable : (x y : ℕ) → math.var x ≡ math.var y → x ≡ y
    same_variable x y e = cc
