use Rattle.cert_reading.proofs.Lemmas.{head_first, at_front, read_on}
use Rattle.cert_reading.proofs.Prelude.{List, [], ◌∷◌, length, codes, refl, ap, Mark, fixed, has_arity, symbol, behind, then_reads, as_marks, state, states_marks}
use Rattle.cert_reading.proofs.automata.transition.Goals as goal

pub returns-in-Some-clause-read : goal.returns-in-Some-clause-read
returns-in-Some-clause-read c = λ more.
    let names = c.args.names.now in
    let b = c.args.states in
    let args = c.arguments-args.result.items in
    as_marks (λ none u. ap (λ (ms : List Mark). symbol (u c.in-Some.f) [] ∷ ms) (head_first (states_marks b args) (state b c.number-target.result ∷ fixed (codes "\n") ∷ [])
    (behind (has_arity (u c.in-Some.f) (length args))) (fixed (codes " "))))
    (then_reads (c.in-Some.ensures.name _ _ _ refl) (read_on c.arguments-args.ensures (read_on (c.number-target.ensures.read names _ _ refl) (at_front (c.text.ensures.read names _ _ refl)))))

pub returns-in-None-clause-read : goal.returns-in-None-clause-read
returns-in-None-clause-read c = λ more.
    let names = c.args.names.now in
    then_reads (c.in-None.ensures.other _ _ _ refl) (read_on (c.text-in-None.ensures.read names _ _ refl) (read_on (c.number-target-in-None.ensures.read names _ _ refl)
    (at_front (c.text-in-None-2.ensures.read names _ _ refl))))
