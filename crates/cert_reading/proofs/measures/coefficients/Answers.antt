use Rattle.cert_reading.proofs.Lemmas.{next_reads, push}
use Rattle.cert_reading.proofs.Prelude.{fixed, codes, word, numeral, in_range, largest, is_few, numbers, ◌≡◌, ◌+◌, suc, [], ◌∷◌, length, refl, arith, coefficients_behind, coefficients_marks}
use Rattle.cert_reading.proofs.Prelude.{then_reads, coefficient}
use Rattle.cert_reading.proofs.measures.coefficients.Goals as goal

pub numbers-preserved : goal.numbers-preserved
numbers-preserved c = λ names.
    let ks = c.numbers.coeffs.items in
    let n = c.len.result + 1 in
    let is : n ≡ suc (length ks) = omega (arith, c.numbers.coeffs.ok.0, c.len.ensures) in
    let number = then_reads (c.numbered-next.ensures.read names (coefficient n) (λ j. coefficients_behind n ∷ []) refl) (c.put.ensures.read names c.args.end (coefficients_behind n ∷ [])) in
    next_reads coefficients_behind (λ u. coefficients_marks 1) ks c.numbered-next.result c.put.ensures.grown (λ none u. push coefficients_marks
    (λ k j. fixed (codes " ") ∷ word (numeral j) (in_range 0 0 (suc largest) j ∷ is_few numbers k ∷ []) ∷ []) (λ k. refl) (λ k j js. refl) 1
    (suc (length ks)) ks _ (omega arith))
    (c.numbers.invariant names) (then_reads (c.either.ensures.one c.numbers-test.true names (coefficients_behind (length ks)) _ _ refl) (rw is at number))

pub returns : goal.returns
returns c = λ names. then_reads (c.numbers.invariant names) (c.either.ensures.other c.numbers-test.false names _ _ _ refl)
