use Rattle.std.proofs.Common.{◌≡◌, ◌∙◌, sym, ap, drop, [], map, refl, subst, ◌+◌}
use Rattle.std.proofs.Math.ListN.{drop_of_length-le}
use Rattle.rewriting.specs.Variables.{occurrences, occurrences_in}
use Rattle.term_core.specs.View.{view, views}
use Rattle.term_core.specs.Counting.{bit, with_counts, HasTwo}
use Rattle.term_core.proofs.Views.{view-Fun, views-drop}
use Rattle.term_core.proofs.Counting.{two_stays, counts_twice, counts_nothing}
use Rattle.term_core.proofs.variables.+mark_all.Goals as goal

pub returns-then-not-mark_all-clause-no : goal.returns-then-not-mark_all-clause-no
returns-then-not-mark_all-clause-no t c = λ _.
    let items = c.deref-arg-items.result.now in
    let from = c.args.from in
    let here = views-drop items c.loop-arg.arg-index c.arg-item.result c.loop-arg-test.true c.arg-item.is in
    let later = views (drop (c.loop-arg.arg-index + 1) items) in
    let two = two_stays (λ x. occurrences_in x later) from _ (c.if-not-mark_all.ensures.no refl) in
    let whole = counts_twice (λ x. occurrences x (view c.arg-item.result)) (λ x. occurrences_in x later) from (map bit c.loop-arg.seen) in
    let left = ap (λ ts. with_counts (λ x. occurrences_in x ts) from (map bit c.loop-arg.seen)) (sym here) in
    let args = ap (λ ts. with_counts (λ x. occurrences_in x (views ts)) from (map bit c.args.seen.now)) c.deref-arg-items.ensures.value in
    let shown = ap (λ u. with_counts (λ x. occurrences x u) from (map bit c.args.seen.now)) (ap view c.in-Fun.is ∙ view-Fun c.in-Fun.field-0 c.in-Fun.args) in
    subst HasTwo (whole ∙ left ∙ c.loop-arg.invariant ∙ args ∙ sym shown) two

pub loop-arg-preserved : goal.loop-arg-preserved
loop-arg-preserved t c =
    let items = c.deref-arg-items.result.now in
    let from = c.args.from in
    let here = views-drop items c.loop-arg.arg-index c.arg-item.result c.loop-arg-test.true c.arg-item.is in
    let later = views (drop (c.loop-arg.arg-index + 1) items) in
    let grown = ap (with_counts (λ x. occurrences_in x later) from) (c.if-not-mark_all.ensures.yes refl) in
    let whole = counts_twice (λ x. occurrences x (view c.arg-item.result)) (λ x. occurrences_in x later) from (map bit c.loop-arg.seen) in
    let left = ap (λ ts. with_counts (λ x. occurrences_in x ts) from (map bit c.loop-arg.seen)) (sym here) in
    grown ∙ whole ∙ left ∙ c.loop-arg.invariant

pub returns-after-loop-arg-clause-yes : goal.returns-after-loop-arg-clause-yes
returns-after-loop-arg-clause-yes t c = λ _.
    let items = c.deref-arg-items.result.now in
    let from = c.args.from in
    let past : drop c.loop-arg.arg-index items ≡ [] = drop_of_length-le items c.loop-arg-test.false in
    let done = ap (λ ts. with_counts (λ x. occurrences_in x (views ts)) from (map bit c.loop-arg.seen)) past in
    let args = ap (λ ts. with_counts (λ x. occurrences_in x (views ts)) from (map bit c.args.seen.now)) c.deref-arg-items.ensures.value in
    let shown = ap (λ u. with_counts (λ x. occurrences x u) from (map bit c.args.seen.now)) (ap view c.in-Fun.is ∙ view-Fun c.in-Fun.field-0 c.in-Fun.args) in
    sym (counts_nothing from (map bit c.loop-arg.seen)) ∙ sym done ∙ c.loop-arg.invariant ∙ args ∙ sym shown
