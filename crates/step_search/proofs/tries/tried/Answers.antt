use Rattle.std.proofs.Common.{◌≡◌, ◌<◌, ◌≤◌, ◌-◌, Some, sym, ap, ◌∙◌, subst, map, length, slice_get, arith}
use Rattle.std.proofs.lemmas.List.{length-map}
use Rattle.term_core.specs.RuleView.{condition_view}
use Rattle.simplified_spaces.specs.Tries.{try_inline, tries_of}
use Rattle.step_search.specs.Answers.{TryAnswers}
use Rattle.step_search.proofs.Places.{caps_at, growth_at, inline_at}
use Rattle.step_search.proofs.Known.{inline_tried}
use Rattle.step_search.proofs.tries.tried.Goals as goal

pub returns-then-place-eq0 : goal.returns-then-place-eq0
returns-then-place-eq0 c =
    λ t at. subst (λ z. TryAnswers c.args.sys.now z c.try_drop.result)
    (sym (caps_at c.args.number (map condition_view c.args.rule.now.conds.items) t
    (subst (λ k. slice_get (tries_of c.args.number (map condition_view c.args.rule.now.conds.items)) k ≡ Some t) c.if-place-eq0.true at))) c.try_drop.ensures

pub returns-then-place-count : goal.returns-then-place-count
returns-then-place-count c =
    let cs = map condition_view c.args.rule.now.conds.items in
    let same : length cs ≡ length c.args.rule.now.conds.items = length-map c.args.rule.now.conds.items condition_view in
    let long : c.len-count.result ≡ length c.args.rule.now.conds.items = c.len-count.ensures ∙ c.args.rule.now.conds.ok.0 in
    let most : c.args.place ≤ length cs = (let below = c.if-place-count.true in omega (arith, same, long, below)) in
    λ t at. subst (λ z. TryAnswers c.args.sys.now z c.try_drop-then-place-count.result) (sym (growth_at c.args.number cs c.args.place t c.if-place-eq0.false most at))
    c.try_drop-then-place-count.ensures

pub returns-else-place-count : goal.returns-else-place-count
returns-else-place-count c =
    let cs = map condition_view c.args.rule.now.conds.items in
    let same : length cs ≡ length c.args.rule.now.conds.items = length-map c.args.rule.now.conds.items condition_view in
    let long : c.len-count.result ≡ length c.args.rule.now.conds.items = c.len-count.ensures ∙ c.args.rule.now.conds.ok.0 in
    let more : length cs < c.args.place = (let above = c.if-place-count.false in omega (arith, same, long, above)) in
    let count : length cs ≡ c.len-count.result = omega (arith, same, long) in
    λ t at. subst (λ z. TryAnswers c.args.sys.now z c.inlining.result)
    (sym (inline_at c.args.number cs c.args.place t more at ∙ ap (λ k. try_inline c.args.number (c.args.place - k)) count))
    (inline_tried c.args.sys.now c.args.number (c.args.place - c.len-count.result) c.inlining.result c.inlining.ensures)
