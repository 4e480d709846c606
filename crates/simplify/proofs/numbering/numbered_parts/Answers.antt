use Rattle.std.proofs.Common.{◌≡◌, ℕ, List, [], map, ap, ◌∙◌}
use Rattle.term_core.specs.Prelude.{view, condition_view}
use Rattle.term_core.specs.declared.systems.Cond.{Cond}
use Rattle.rewriting.specs.Prelude.{with_variables}
use Rattle.simplify.proofs.Placing.{placed, begun, both_added}
use Rattle.simplify.proofs.numbering.numbered_parts.Goals as goal

pub returns : goal.returns
returns c =
    let a = c.in_ok-new_left.ensures in
    let b = c.in_ok-new_right.ensures in
    let l = view c.args.left.now in
    let r = view c.args.right.now in
    let l' = view c.in_ok-new_left.new_left in
    let r' = view c.in_ok-new_right.new_right in
    let first = c.numbered.new.self in
    let second = c.numbered-2.new.self in
    let first_row : c.numbered.new.self ≡ with_variables [] (view c.args.left.now) = a.row ∙ ap (λ (z : List ℕ). with_variables z (view c.args.left.now)) c.requires in
    both_added l r l' r' (map condition_view c.in_ok-conds.conds.items) (map condition_view c.args.front.now) (map condition_view c.args.behind.now)
    (map condition_view c.push_numbered.new.out.items) (map condition_view c.push_numbered-2.new.out.items) second c.push_numbered.new.row c.push_numbered-2.new.row
    (begun l r l' r' first second b.front (placed [] first l l' first_row a.distinct a.names a.below) (placed first second r r' b.row b.distinct b.names b.below) b.distinct first_row b.row)
    (ap (λ (ds : List Cond). map condition_view ds) c.in_ok-conds.ensures.items) c.in_ok-push_numbered.ensures c.in_ok-push_numbered-2.ensures
