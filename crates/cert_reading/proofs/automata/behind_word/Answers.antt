use Rattle.cert_reading.proofs.Lemmas.{read_on}
use Rattle.cert_reading.proofs.Prelude.{then_reads, ℕ, suc, List, [], ◌∷◌, ◌++◌, map, codes, refl, sym, ap, ◌∙◌, append_assoc, largest, Mark, fixed, word, in_range, is_few, numeral}
use Rattle.cert_reading.proofs.Prelude.{as_marks, number_for, accepting_marks, transitions_marks, transition_view, states, transitions}
use Rattle.cert_reading.proofs.automata.behind_word.Goals as goal

pub returns-clause-read : goal.returns-clause-read
returns-clause-read c =
    let names = c.args.names.now in
    let b = c.counted-states.result in
    let n = c.counted-count.result in
    let qs = c.accepting-accepting.result.items in
    let ts = map transition_view c.transitions-transitions.result.items in
    as_marks (λ none u.
    ap (λ (ms : List Mark). fixed (codes " ") ∷ word (numeral b) (in_range 0 1 (suc largest) b ∷ is_few states b ∷ []) ∷ fixed (codes "\naccepting") ∷ ms)
    (append_assoc (accepting_marks b qs) (fixed (codes "\ntransitions ") ∷ []) (number_for transitions n ∷ fixed (codes "\n") ∷ transitions_marks u b ts)
    ∙ ap (λ (k : ℕ). accepting_marks b qs ++ (fixed (codes "\ntransitions ") ∷ number_for transitions k ∷ fixed (codes "\n") ∷ transitions_marks u b ts))
    (sym (c.transitions-transitions.ensures.counted none))))
    (read_on (c.text.ensures.read names _ _ refl) (read_on (c.counted-states.ensures.read names _ _ refl) (read_on (c.text-2.ensures.read names _ _ refl)
    (read_on (c.accepting-accepting.ensures names) (then_reads (c.counted-count.ensures.read names _ _ refl) (read_on (c.text-3.ensures.read names _ _ refl)
    c.transitions-transitions.ensures.read))))))
