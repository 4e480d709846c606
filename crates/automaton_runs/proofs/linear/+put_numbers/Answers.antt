use Rattle.std.proofs.Common.{◌≡◌, ◌+◌, ◌<◌, ◌∙◌, ℕ, List, ap, sym, subst, arith, length, take}
use Rattle.std.proofs.lemmas.List.{take_all}
use Rattle.rewriting.specs.Prelude.{size, variable_occurrences, variable_occurrences_of}
use Rattle.term_core.specs.View.{view, views}
use Rattle.term_core.specs.declared.terms.Term.{Term}
use Rattle.automaton_runs.specs.Linear.{linear_all}
use Rattle.term_core.proofs.Sizes.{size_inside}
use Rattle.automaton_runs.proofs.NumberedTerms.{count_more, count_within, leaves_shown, numbered_more, numbered_symbol}
use Rattle.automaton_runs.proofs.linear.+put_numbers.Goals as goal

pub put_numbers-requires : goal.put_numbers-requires
put_numbers-requires t c =
    let ts = c.deref-arg-items.result.now in
    let i = c.loop-arg.arg-index in
    let shown = ap length (leaves_shown c.args.t.now c.in-Fun.f c.in-Fun.args c.in-Fun.is) in
    let same = ap (λ (l : List Term). length (variable_occurrences_of (views l))) c.deref-arg-items.ensures.value in
    let bound : c.loop-arg.next + length (variable_occurrences (view c.arg-item.result)) < 4294967296 =
    omega (arith, count_more ts i c.arg-item.result c.loop-arg-test.true c.arg-item.is, count_within ts (i + 1), c.loop-arg.invariant.next, c.requires) in (
      subst (λ (n : ℕ). size (view c.arg-item.result) < n) c.decreases
          (size_inside c.args.t.now c.in-Fun.f c.in-Fun.args ts i c.arg-item.result c.in-Fun.is c.deref-arg-items.ensures.value c.loop-arg-test.true c.arg-item.is),
      bound,
    )

pub loop-arg-preserved : goal.loop-arg-preserved
loop-arg-preserved t c =
    let ts = c.deref-arg-items.result.now in
    let i = c.loop-arg.arg-index in
    let more = count_more ts i c.arg-item.result c.loop-arg-test.true c.arg-item.is in record {
      next = omega (arith, more, c.in_ok-put_numbers-in-Fun.ensures.next, c.loop-arg.invariant.next);
      made =
          numbered_more c.args.next.now c.loop-arg.next i ts c.loop-arg.made.items c.push.new.self.items c.arg-item.result c.in_ok-put_numbers-in-Fun.field-0 c.loop-arg-test.true
          c.arg-item.is c.loop-arg.invariant.next
          c.in_ok-push-in-Fun.ensures.items c.loop-arg.invariant.made c.in_ok-put_numbers-in-Fun.ensures.term;
    }

pub returns-after-loop-arg : goal.returns-after-loop-arg
returns-after-loop-arg t c =
    let ts = c.deref-arg-items.result.now in
    let whole : take c.loop-arg.arg-index ts ≡ ts = take_all c.loop-arg.arg-index ts c.loop-arg-test.false in
    let shown = leaves_shown c.args.t.now c.in-Fun.f c.in-Fun.args c.in-Fun.is in
    let names : variable_occurrences_of (views (take c.loop-arg.arg-index ts)) ≡ variable_occurrences (view c.args.t.now) = ap
    (λ (l : List Term). variable_occurrences_of (views l)) (whole ∙ c.deref-arg-items.ensures.value) ∙ sym shown in record {
      next = c.loop-arg.invariant.next ∙ ap (λ (l : List ℕ). c.args.next.now + length l) names;
      term =
          numbered_symbol c.args.next.now c.args.t.now c.in-Fun.f c.in-Fun.args c.loop-arg.made ts c.in-Fun.is c.deref-arg-items.ensures.value
          (c.loop-arg.invariant.made ∙ ap (λ (l : List Term). linear_all c.args.next.now (views l)) whole);
    }
