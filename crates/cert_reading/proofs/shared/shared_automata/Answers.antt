use Rattle.cert_reading.proofs.Lemmas.{then_where, as_marks_where, low_where, other_below, automata_other, other_word}
use Rattle.cert_reading.proofs.Prelude.{ℕ, ◌∷◌, map, codes, refl, sym, ap, fixed, None, shared_line, between, behind_automata, shared_automata, number_for, automata_marks, automaton_view}
use Rattle.cert_reading.proofs.Prelude.{shared_count, line}
use Rattle.cert_reading.proofs.SharedKnown.{known_now}
use Rattle.cert_reading.proofs.shared.shared_automata.Goals as goal

pub returns-clause-read : goal.returns-clause-read
returns-clause-read c = λ given.
    let names = c.args.names.now in
    let n = c.counted-count.result in
    let all = map automaton_view c.automata.result.items in
    as_marks_where (λ none u. ap (λ (k : ℕ). fixed (codes "shared ") ∷ number_for shared_automata k ∷ fixed (codes "\n") ∷ automata_marks u all) (sym (c.automata.ensures.counted none)))
    (then_where (other_word tt (λ none. c.text.ensures.here none names (shared_line given) _ refl) (c.text.ensures.read names (shared_line given) _ refl))
    (then_where (other_word tt (λ none. c.counted-count.ensures.here none names (shared_count given) _ refl) (c.counted-count.ensures.read names (shared_count given) _ refl))
    (then_where (low_where (behind_automata n given) (other_below (behind_automata n given) (automata_other n given)) (c.text-2.ensures.read names (between line) _ refl))
    (c.automata.ensures.read given))))

pub returns-clause-known : goal.returns-clause-known
returns-clause-known c = λ fresh. known_now (map automaton_view c.automata.result.items) c.automata.ensures.plain fresh (returns-clause-read c None)
