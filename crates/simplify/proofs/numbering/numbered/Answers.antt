use Rattle.std.proofs.Common.{◌≡◌, ◌++◌, map, length, sym, ap, ◌∙◌, arith}
use Rattle.term_core.specs.Prelude.{view, condition_view}
use Rattle.rewriting.specs.Prelude.{rule_variables}
use Rattle.simplify.specs.Rules.{rule_of}
use Rattle.simplify.proofs.Placing.{finished, row_counted}
use Rattle.simplify.proofs.numbering.numbered.Goals as goal

pub overflow_cast-result : goal.overflow_cast-result
overflow_cast-result c =
    let p = c.in_ok-left.ensures in
    let same : length c.numbered_parts.new.row ≡ length
    (rule_variables (rule_of (view c.args.left.now) (view c.args.right.now) (map condition_view c.args.front.now ++ map condition_view c.args.behind.now))) =
    ap length p.row_is in
    omega (arith, same, c.requires, c.len.ensures.len)

pub returns-clause-rule : goal.returns-clause-rule
returns-clause-rule c =
    finished (view c.args.left.now) (view c.args.right.now) _ _ (map condition_view c.args.front.now ++ map condition_view c.args.behind.now)
    (map condition_view c.in_ok-left.conds.items) c.numbered_parts.new.row c.in_ok-left.ensures

pub returns-clause-count : goal.returns-clause-count
returns-clause-count c =
    let l = view c.args.left.now in
    let r = view c.args.right.now in
    let cs = map condition_view c.args.front.now ++ map condition_view c.args.behind.now in
    let ds = map condition_view c.in_ok-left.conds.items in
    let row = c.numbered_parts.new.row in
    let p = c.in_ok-left.ensures in
    c.len.ensures.len ∙ (row_counted l r _ _ cs ds row p ∙ ap (λ z. length (rule_variables z)) (sym (finished l r _ _ cs ds row p)))
