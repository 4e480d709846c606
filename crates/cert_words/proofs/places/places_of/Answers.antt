use Rattle.cert_words.proofs.Prelude.{None, Some, arith}
use Rattle.cert_words.proofs.BadParts.{not_root, found, parts_no_number, parts_great, parts_good, parts_end, places_are, places_read}
use Rattle.cert_words.proofs.places.places_of.Goals as goal

pub returns-then-value-gt-LARGEST : goal.returns-then-value-gt-LARGEST
returns-then-value-gt-LARGEST c = λ names. found names c.args.at c.args.word.now (Some c.bytes.begins) (not_root c.args.word.now _ _ c.behind.ensures c.if-is_some.ensures)
    c.requires.spelt (parts_great c.args.word.now c.bytes.place c.bytes.begins c.bytes.value c.bytes.invariant.parts c.bytes-test.true c.if-b-ne46.true
    (rw c.saturating_sub.ensures at c.if-value-gt-LARGEST.true))

pub returns-else-value-gt0 : goal.returns-else-value-gt0
returns-else-value-gt0 c = λ names. found names c.args.at c.args.word.now (Some c.bytes.begins) (not_root c.args.word.now _ _ c.behind.ensures c.if-is_some.ensures)
    c.requires.spelt (parts_no_number c.args.word.now c.bytes.place c.bytes.begins c.bytes.value c.bytes.invariant.parts c.bytes-test.true c.if-b-ne46.false c.if-value-gt0.false)

pub returns-then-value-eq0 : goal.returns-then-value-eq0
returns-then-value-eq0 c = λ names. found names c.args.at c.args.word.now (Some c.bytes.begins) (not_root c.args.word.now _ _ c.behind.ensures c.if-is_some.ensures)
    c.requires.spelt (parts_end c.args.word.now c.bytes.place c.bytes.begins c.bytes.value c.bytes.invariant.parts c.bytes-test.false (let zero = c.if-value-eq0.true in omega (arith, zero)))

pub returns : goal.returns
returns c = λ names.
    let n = not_root c.args.word.now _ _ c.behind.ensures c.if-is_some.ensures in (
      places_read c.args.word.now c.bytes.place c.bytes.value c.bytes.parts.items _ (places_are c.args.word.now n c.requires.spelt) c.bytes.invariant.numbers
          c.bytes-test.false c.in_ok-push-2.ensures.items,
      found names c.args.at c.args.word.now None n c.requires.spelt (parts_good c.args.word.now c.bytes.place c.bytes.begins c.bytes.value c.bytes.invariant.parts c.bytes-test.false
          (let some = c.if-value-eq0.false in omega (arith, some))),
    )
