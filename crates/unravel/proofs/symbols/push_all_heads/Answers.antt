use Rattle.std.proofs.Common.{◌≡◌, ◌+◌, ◌++◌, map, length, ap, ◌∙◌, arith}
use Rattle.std.proofs.lemmas.Grind.{common_steps}
use Rattle.term_core.specs.HeadView.{head_view}
use Rattle.unravel.specs.RuleAnswers.{rule_heads}
use Rattle.unravel.proofs.SymbolLists.{heads_here}
use Rattle.unravel.proofs.symbols.push_all_heads.Goals as goal

pub loop-i-preserved : goal.loop-i-preserved
loop-i-preserved c =
    let count : c.len.result ≡ length c.index-rules-i.result.conds.items = grind (arith, common_steps) in
    let added = c.in_ok-push_heads.ensures in
    heads_here c.args.rules.now c.loop-i.i c.index-rules-i.result (map head_view c.loop-i.out.items) (map head_view c.push_heads.new.out.items) _ c.loop-i-test.true
    c.index-rules-i.is c.loop-i.invariant
    (added ∙ ap (λ n. map head_view c.loop-i.out.items ++ rule_heads (c.loop-i.i + 1) n) count)
