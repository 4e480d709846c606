use Rattle.std.proofs.Common.{◌≡◌, ◌-◌, ◌∙◌, refl, sym, ap, length, arith}
use Rattle.std.proofs.lemmas.List.{length-set}
use Rattle.term_core.specs.HeadView.{head_view}
use Rattle.cert_model.specs.CertificateView.{linear_entry_view}
use Rattle.grid_search.proofs.Columns.{numbers_from_ranges}
use Rattle.grid_search.proofs.Turns.{none_reset, none_left, turn_back, turn_up}
use Rattle.grid_search.proofs.entries.advance.Goals as goal

pub places-init : goal.places-init
places-init c =
    let old = c.args.entry.now.coeffs in
    let counted : length old.items ≡ c.len-count.result = sym (c.len-count.ensures ∙ old.ok.0) in
    record {
      within = omega arith;
      counted = counted;
      old = counted;
      head = refl;
      reset = λ arity from. none_reset (head_view c.args.entry.now.head) arity c.len-count.result old.items counted from;
    }

pub places-preserved : goal.places-preserved
places-preserved c =
    let old = c.args.entry.now in
    let numbers = c.numbers_at-numbers.result in
    let known = c.places.invariant in
    record {
      within = omega (arith, known.within);
      counted = length-set c.places.entry.coeffs.items (c.places.place - 1) numbers.lowest ∙ known.counted;
      old = known.old;
      head = known.head;
      reset = λ arity from.
          turn_back (head_view old.head) (head_view c.places.entry.head) arity c.len-count.result c.places.place numbers.lowest numbers.highest c.index_mut-number.result.now
          old.coeffs.items c.places.entry.coeffs.items (ap head_view known.head) c.places-test.true known.within known.counted c.numbers_at-numbers.ensures.tried
          c.index_mut-number.ensures.value from (known.reset arity from) c.if-number-numbers.false;
    }

pub returns-then-number-numbers-clause-next : goal.returns-then-number-numbers-clause-next
returns-then-number-numbers-clause-next c arity is =
    let old = c.args.entry.now in
    let numbers = c.numbers_at-numbers.result in
    let known = c.places.invariant in
    let from = numbers_from_ranges (head_view old.head) arity (linear_entry_view old) is in
    turn_up (head_view old.head) (head_view c.places.entry.head) arity c.len-count.result c.places.place numbers.lowest numbers.highest c.index_mut-number.result.now
    old.coeffs.items c.places.entry.coeffs.items (ap head_view known.head) c.places-test.true known.within known.counted c.numbers_at-numbers.ensures.tried
    c.index_mut-number.ensures.value from (known.reset arity from) c.if-number-numbers.true

pub returns-clause-next : goal.returns-clause-next
returns-clause-next c arity is =
    let old = c.args.entry.now in
    let from = numbers_from_ranges (head_view old.head) arity (linear_entry_view old) is in
    none_left (head_view old.head) arity c.places.place old.coeffs.items c.places.entry.coeffs.items c.places-test.false (c.places.invariant.reset arity from)
