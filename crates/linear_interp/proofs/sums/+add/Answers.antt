use Rattle.std.proofs.Common.{◌≡◌, ◌+◌, suc, map, length, drop, sym, ◌∙◌, subst, arith}
use Rattle.rewriting.specs.Terms.{app}
use Rattle.term_core.specs.View.{view, views}
use Rattle.term_core.proofs.Views.{views-drop}
use Rattle.std.specs.List.{slice_index}
use Rattle.cert_model.specs.CertificateView.{linear_entry_view}
use Rattle.linear_interp.specs.Parts.{IsReady, AddAnswers, HasAdded, GoesAbove}
use Rattle.linear_interp.proofs.Adding.{SoFar, begin, advance, fails, next, raised_small}
use Rattle.term_core.proofs.Sizes.{argument_size}
use Rattle.linear_interp.proofs.Entries.{call, ready_at, number-index}
use Rattle.linear_interp.proofs.sums.+add.Goals as goal

pub add-add_symbol-requires : goal.add-add_symbol-requires
add-add_symbol-requires t c =
    let k = call c.args.entries.now (length c.args.sums.now) c.in-Fun.f c.args.t.now c.in-Fun.args c.index-entries-f.result c.deref.result.now c.deref-in-Fun.result.now c.in-Fun.is
    c.requires.term c.index-entries-f.is c.deref.ensures.value c.deref-in-Fun.ensures.value in
    let smaller = k.falls in
    let falls = c.decreases in
    (omega (arith, smaller, falls), (c.requires.factor, (k.counted, (k.small, (k.args_ready, (c.requires.sums, c.requires.some))))))

pub add-returns-in-Fun : goal.add-returns-in-Fun
add-returns-in-Fun t c =
    let k = call c.args.entries.now (length c.args.sums.now) c.in-Fun.f c.args.t.now c.in-Fun.args c.index-entries-f.result c.deref.result.now c.deref-in-Fun.result.now c.in-Fun.is
    c.requires.term c.index-entries-f.is c.deref.ensures.value c.deref-in-Fun.ensures.value in
    subst (λ z. AddAnswers (map linear_entry_view c.args.entries.now) c.args.factor z c.args.sums.now c.add_symbol.new.sums c.add_symbol.result) (sym k.shown)
    (c.add_symbol.ensures c.in-Fun.f k.numbers_are)

pub add_symbol-loop-k-init : goal.add_symbol-loop-k-init
add_symbol-loop-k-init t c =
    let es = map linear_entry_view c.args.entries.now in
    record {
      added = λ f same. begin es c.args.factor f c.from.result (views c.args.args.now) c.args.sums.now c.raise.new.sums c.requires.sums c.requires.some
          (c.from.ensures ∙ sym (number-index es f 0 c.args.numbers.now same)) c.raise.ensures.sums
          c.if-not-raise.ensures.above;
      as_many = c.raise.auto.sums;
      small = raised_small c.args.sums.now c.raise.new.sums 0 _ c.requires.sums c.requires.some c.raise.ensures.sums c.if-not-raise.ensures.above;
    }

pub add_symbol-add-requires : goal.add_symbol-add-requires
add_symbol-add-requires t c =
    let es = map linear_entry_view c.args.entries.now in
    let smaller = argument_size c.args.args.now c.loop-k.k c.index-args-k.result c.loop-k-test.true c.index-args-k.is in
    let falls = c.decreases in
    let capped = c.inner_factor.ensures in
    let many = c.loop-k.invariant.as_many in
    let some = c.requires.some in (
      omega (arith, smaller, falls),
      (
        omega (arith, capped),
        (
          subst (λ n. IsReady es n (view c.index-args-k.result)) (sym many) (ready_at es (length c.args.sums.now) c.args.args.now c.loop-k.k c.index-args-k.result c.requires.args
              c.loop-k-test.true c.index-args-k.is),
          (c.loop-k.invariant.small, omega (arith, many, some)),
        ),
      ),
    )

pub add_symbol-returns-then-not-add : goal.add_symbol-returns-then-not-add
add_symbol-returns-then-not-add t c =
    λ f same.
    let es = map linear_entry_view c.args.entries.now in
    let whole = app f (views c.args.args.now) in
    let arg = view c.index-args-k.result in
    let rest = views (drop (c.loop-k.k + 1) c.args.args.now) in
    let so = next es c.args.factor f (c.loop-k.k + 1) (views (drop c.loop-k.k c.args.args.now)) arg rest whole c.args.sums.now c.loop-k.sums (c.loop-k.invariant.added f same)
    (views-drop c.args.args.now c.loop-k.k c.index-args-k.result c.loop-k-test.true c.index-args-k.is) in
    let number = slice_index c.args.numbers.now (c.loop-k.k + 1) in
    fails es c.args.factor f (c.loop-k.k + 1) number arg rest whole c.args.sums.now c.loop-k.sums so (sym (number-index es f (c.loop-k.k + 1) c.args.numbers.now same))
    (subst (λ n. GoesAbove es n arg c.loop-k.sums) c.inner_factor.ensures c.if-not-add.ensures)

pub add_symbol-loop-k-preserved : goal.add_symbol-loop-k-preserved
add_symbol-loop-k-preserved t c =
    let es = map linear_entry_view c.args.entries.now in
    let arg = view c.index-args-k.result in
    let number = slice_index c.args.numbers.now (c.loop-k.k + 1) in
    let added = subst (λ n. HasAdded es n arg c.loop-k.sums c.add.new.sums) c.inner_factor.ensures c.if-not-add.ensures in
    record {
      added = λ f same. (
          let whole = app f (views c.args.args.now) in
          let rest = views (drop (c.loop-k.k + 1) c.args.args.now) in
          let so = next es c.args.factor f (c.loop-k.k + 1) (views (drop c.loop-k.k c.args.args.now)) arg rest whole c.args.sums.now c.loop-k.sums (c.loop-k.invariant.added f same)
          (views-drop c.args.args.now c.loop-k.k c.index-args-k.result c.loop-k-test.true c.index-args-k.is) in
          let place : suc (c.loop-k.k + 1) ≡ c.loop-k.k + 1 + 1 = omega arith in
          subst (λ k. SoFar es c.args.factor f k rest whole c.args.sums.now c.add.new.sums) place
          (advance es c.args.factor f (c.loop-k.k + 1) number arg rest whole c.args.sums.now c.loop-k.sums c.add.new.sums so (sym (number-index es f (c.loop-k.k + 1) c.args.numbers.now same)) added)
          );
      as_many = added.as_many ∙ c.loop-k.invariant.as_many;
      small = added.small;
    }
