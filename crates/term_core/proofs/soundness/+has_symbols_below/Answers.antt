use Rattle.std.proofs.Common.{◌≡◌, refl, subst, [], drop, arith}
use Rattle.std.proofs.Math.ListN.{drop_of_length-le}
use Rattle.term_core.specs.SystemView.{HaveSymbolsBelow}
use Rattle.term_core.specs.View.{views}
use Rattle.term_core.proofs.Over.{below_from}
use Rattle.term_core.proofs.soundness.+has_symbols_below.Goals as goal

pub returns-after-loop-arg : goal.returns-after-loop-arg
returns-after-loop-arg t c =
    let n = c.args.count in
    let items = c.deref-arg-items.result.now in
    let at_end : HaveSymbolsBelow n (views (drop c.loop-arg.arg-index items)) =
    let past : drop c.loop-arg.arg-index items ≡ [] = drop_of_length-le items c.loop-arg-test.false in rw past tt in
    let all = subst (λ ts. HaveSymbolsBelow n (views ts)) c.deref-arg-items.ensures.value (c.loop-arg.invariant.1 at_end) in
    (λ _. below_from n _ _ _ c.in-Fun.is (omega (arith, c.if-f-count.false)) all, λ _. refl)
