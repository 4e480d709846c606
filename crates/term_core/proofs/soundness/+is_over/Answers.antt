use Rattle.std.proofs.Common.{◌≡◌, refl, subst, [], drop}
use Rattle.std.proofs.Math.ListN.{drop_of_length-le}
use Rattle.rewriting.specs.Signatures.{AreOver}
use Rattle.term_core.specs.View.{views}
use Rattle.term_core.proofs.Over.{over_from}
use Rattle.term_core.proofs.soundness.+is_over.Goals as goal

pub returns-after-loop-arg : goal.returns-after-loop-arg
returns-after-loop-arg t c =
    let arities = c.args.arities.now in
    let items = c.deref-arg-items.result.now in
    let at_end : AreOver arities (views (drop c.loop-arg.arg-index items)) =
    let past : drop c.loop-arg.arg-index items ≡ [] = drop_of_length-le items c.loop-arg-test.false in rw past tt in
    let all = subst (λ ts. AreOver arities (views ts)) c.deref-arg-items.ensures.value (c.loop-arg.invariant.1 at_end) in
    let arity = rw c.len.ensures at (c.if-not-has_arity.ensures.0 refl) in
    (λ _. over_from arities _ _ _ c.in-Fun.is arity all, λ _. refl)
