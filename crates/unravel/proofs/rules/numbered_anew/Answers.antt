use Rattle.std.proofs.Common.{◌≡◌, ◌∙◌, ℕ, List, length, map, sym, ap, subst}
use Rattle.rewriting.specs.Prelude.{cons, apply, variables_of, sides}
use Rattle.term_core.specs.Prelude.{view, condition_view}
use Rattle.term_core.specs.declared.systems.Cond.{Cond}
use Rattle.unravel.specs.SideView.{side_view, numbered}
use Rattle.unravel.proofs.Sound.{counted_anew}
use Rattle.unravel.proofs.rules.numbered_anew.Goals as goal

pub returns-clause-counted : goal.returns-clause-counted
returns-clause-counted c =
    let left = view c.in_ok-new_left.new_left in
    let right = view c.in_ok-new_right.new_right in
    c.len.ensures ∙ c.in_ok-order.order.ok.0
    ∙ counted_anew (side_view c.args.left.now) (side_view c.args.right.now) c.in_ok-order.order.items left right c.in_ok-order.ensures.variables
    (subst (λ (o : List ℕ). left ≡ apply (numbered o) (side_view c.args.left.now)) c.deref.ensures.value c.in_ok-new_left.ensures)
    (subst (λ (o : List ℕ). right ≡ apply (numbered o) (side_view c.args.right.now)) c.deref-2.ensures.value c.in_ok-new_right.ensures)
    ∙ ap (λ (cs : List Cond). length (variables_of (cons left (cons right (sides (map condition_view cs)))))) (sym c.new.ensures.items)
