use Rattle.std.proofs.Common.{◌≡◌, ◌+◌, ◌∙◌, sym, ap, drop, []}
use Rattle.std.proofs.Math.ListN.{drop_of_length-le}
use Rattle.rewriting.specs.Variables.{with_variables, with_variables_of}
use Rattle.term_core.specs.View.{view, views}
use Rattle.term_core.specs.Numbering.{numbers_from}
use Rattle.term_core.proofs.Views.{view-Fun, views-drop}
use Rattle.term_core.proofs.Numbers.{stuck_at, none_holds}
use Rattle.term_core.proofs.soundness.+known_after.Goals as goal

pub returns-in_err-next-in-Fun-clause-none : goal.returns-in_err-next-in-Fun-clause-none
returns-in_err-next-in-Fun-clause-none t c =
    let items = c.deref-arg-items.result.now in
    let here = views-drop items c.loop-arg.arg-index c.arg-item.result c.loop-arg-test.true c.arg-item.is in
    let shown = ap view c.in-Fun.is ∙ view-Fun c.in-Fun.field-0 c.in-Fun.args in
    let left = rw here at c.loop-arg.invariant.same in
    let all = left ∙ ap (λ ts. with_variables_of (numbers_from 0 c.args.known) (views ts)) c.deref-arg-items.ensures.value ∙ sym (ap (with_variables (numbers_from 0 c.args.known)) shown) in
    none_holds c.from_residual.result (stuck_at (numbers_from 0 c.loop-arg.next) _ (view c.arg-item.result) (views (drop (c.loop-arg.arg-index + 1) items)) all c.in_err-next-in-Fun.ensures.none)

pub returns-after-loop-arg-clause-some : goal.returns-after-loop-arg-clause-some
returns-after-loop-arg-clause-some t c =
    let items = c.deref-arg-items.result.now in
    let past : drop c.loop-arg.arg-index items ≡ [] = drop_of_length-le items c.loop-arg-test.false in
    let shown = ap view c.in-Fun.is ∙ view-Fun c.in-Fun.field-0 c.in-Fun.args in
    let done = rw past at c.loop-arg.invariant.same in record {
      are = ap (with_variables (numbers_from 0 c.args.known)) shown ∙ sym (done ∙ ap (λ ts. with_variables_of (numbers_from 0 c.args.known) (views ts)) c.deref-arg-items.ensures.value);
      few = c.loop-arg.invariant.few;
    }
