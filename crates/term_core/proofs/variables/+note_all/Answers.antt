use Rattle.std.proofs.Common.{◌∙◌, sym, ap, subst, take, ◌+◌, List}
use Rattle.std.proofs.lemmas.List.{take_all}
use Rattle.term_core.specs.declared.terms.Term.{Term}
use Rattle.rewriting.specs.Variables.{occurrences, occurrences_in}
use Rattle.term_core.specs.View.{view, views}
use Rattle.term_core.specs.Noting.{AreNoted}
use Rattle.term_core.proofs.Views.{view-Fun}
use Rattle.term_core.proofs.Noting.{nothing_noted, noted_then, counted_take}
use Rattle.term_core.proofs.variables.+note_all.Goals as goal

pub loop-arg-init : goal.loop-arg-init
loop-arg-init t c = nothing_noted c.args.seen.now c.args.repeated.now

pub loop-arg-preserved : goal.loop-arg-preserved
loop-arg-preserved t c =
    let items = c.deref-arg-items.result.now in
    let i = c.loop-arg.arg-index in
    noted_then (λ x. occurrences_in x (views (take i items))) (λ x. occurrences x (view c.arg-item.result)) (λ x. occurrences_in x (views (take (i + 1) items)))
    c.args.seen.now c.loop-arg.seen _ c.args.repeated.now c.loop-arg.repeated _ (counted_take items i c.arg-item.result c.loop-arg-test.true c.arg-item.is) c.loop-arg.invariant
    c.in_ok-note_all-in-Fun.ensures

pub returns-after-loop-arg : goal.returns-after-loop-arg
returns-after-loop-arg t c =
    let items = c.deref-arg-items.result.now in
    let noted : List Term → Type 0 = λ ts. AreNoted (λ x. occurrences_in x (views ts)) c.args.seen.now c.loop-arg.seen c.args.repeated.now c.loop-arg.repeated in
    let all = subst noted (take_all c.loop-arg.arg-index items c.loop-arg-test.false ∙ c.deref-arg-items.ensures.value) c.loop-arg.invariant in
    subst (λ u. AreNoted (λ x. occurrences x u) c.args.seen.now c.loop-arg.seen c.args.repeated.now c.loop-arg.repeated) (sym (ap view c.in-Fun.is ∙ view-Fun c.in-Fun.field-0 c.in-Fun.args)) all
