use Rattle.std.proofs.Common.{◌++◌, ◌∷◌, [], map, cond, sym, ap, ◌∙◌, arith, append-nil, filter}
use Rattle.std.specs.List.{range_with_len}
use Rattle.term_core.specs.RuleView.{condition_view}
use Rattle.query_space.specs.Variables.{is_open}
use Rattle.query_search.proofs.Ending.{filter_more}
use Rattle.query_search.proofs.occurring.open_variables.Goals as goal
use Rattle.query_search.proofs.occurring.open_variables.Goals.{then-is_open+in_ok-push, else-is_open}

pub numbers-preserved : goal.numbers-preserved
numbers-preserved c =
    let cs = map condition_view c.args.conds.now in
    let x = c.numbers.x in
    let more = filter_more (λ y. is_open y cs) 0 x x (omega arith) in
    let before = filter (λ y. is_open y cs) (range_with_len 0 x) in
    elim c.if-is_open.branch [
      | then-is_open+in_ok-push w ↦
          ap (λ v. v.items) w.out-is ∙ w.in_ok-push.ensures.items ∙ ap (λ xs. xs ++ x ∷ []) c.numbers.invariant ∙ ap (λ q. before ++ cond q (x ∷ []) []) w.if-is_open.ensures ∙ sym more
      | else-is_open w ↦ ap (λ v. v.items) w.out-is ∙ c.numbers.invariant ∙ sym (append-nil before) ∙ ap (λ q. before ++ cond q (x ∷ []) []) w.if-is_open.ensures ∙ sym more
    ]
