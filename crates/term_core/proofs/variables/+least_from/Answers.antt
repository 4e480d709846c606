use Rattle.std.proofs.Common.{◌≡◌, ◌∙◌, sym, ap, drop, [], arith}
use Rattle.std.proofs.Math.ListN.{drop_of_length-le}
use Rattle.rewriting.specs.Variables.{occurrences, occurrences_in}
use Rattle.term_core.specs.View.{view, views}
use Rattle.term_core.proofs.Views.{view-Fun, views-drop}
use Rattle.term_core.proofs.variables.+least_from.Goals as goal

pub loop-arg-preserved : goal.loop-arg-preserved
loop-arg-preserved t c =
    let items = c.deref-arg-items.result.now in
    let here = views-drop items c.loop-arg.arg-index c.arg-item.result c.loop-arg-test.true c.arg-item.is in record {
      least = c.lesser-least.ensures.one c.args.bound c.loop-arg.invariant.least c.least_from.ensures.bound;
      before = λ x above below.
          let before = c.loop-arg.invariant.before x above (c.lesser-least.ensures.left x below) in
          let none = c.least_from.ensures.none_before x above (c.lesser-least.ensures.right x below) in
          let next = ap (occurrences_in x) here in
          omega (arith, before, none, next);
    }

pub returns-after-loop-arg-clause-none_before : goal.returns-after-loop-arg-clause-none_before
returns-after-loop-arg-clause-none_before t c = λ x above below.
    let items = c.deref-arg-items.result.now in
    let past : drop c.loop-arg.arg-index items ≡ [] = drop_of_length-le items c.loop-arg-test.false in
    let before = c.loop-arg.invariant.before x above below in
    let none = rw past at before in
    let shown = ap (occurrences x) (ap view c.in-Fun.is ∙ view-Fun c.in-Fun.field-0 c.in-Fun.args) in
    shown ∙ ap (λ ts. occurrences_in x (views ts)) (sym c.deref-arg-items.ensures.value) ∙ none
