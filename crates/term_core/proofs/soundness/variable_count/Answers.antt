use Rattle.std.proofs.Common.{map, ap, sym}
use Rattle.rewriting.specs.Prelude.{cons, sides, with_variables_of}
use Rattle.term_core.specs.View.{view}
use Rattle.term_core.specs.RuleView.{condition_view}
use Rattle.term_core.proofs.Numbers.{stuck_at, none_holds}
use Rattle.std.proofs.Common.{refl, []}
use Rattle.term_core.proofs.soundness.variable_count.Goals as goal

pub returns-in_err-left-clause-none : goal.returns-in_err-left-clause-none
returns-in_err-left-clause-none c =
    let rule = c.args.rule.now in
    let later = cons (view rule.right) (sides (map condition_view rule.conds.items)) in
    none_holds c.from_residual.result (stuck_at [] _ (view rule.left) later refl c.in_err-left.ensures.none)

pub returns-in_err-right-clause-none : goal.returns-in_err-right-clause-none
returns-in_err-right-clause-none c =
    let rule = c.args.rule.now in
    let later = sides (map condition_view rule.conds.items) in
    let left = sym (ap (λ xs. with_variables_of xs (cons (view rule.right) later)) c.in_ok-left.ensures.some.are) in
    none_holds c.from_residual-in_err-right.result (stuck_at _ _ (view rule.right) later left c.in_err-right.ensures.none)
