use Rattle.cert_reading.proofs.Lemmas.{automaton_anew, other_word, refused_where, then_where, low_where, sealed_where, other_place, other_below}
use Rattle.cert_reading.proofs.Prelude.{[], ◌∷◌, refl, automaton_view, name_of, automaton_marks, automata_left, automaton_end, behind_automata, then_reads, framed, none_now}
use Rattle.cert_reading.proofs.shared.shared_automaton.Goals as goal

pub returns-clause-read : goal.returns-clause-read
returns-clause-read c = λ more given.
    let names = c.args.names.now in
    let a = automaton_view c.behind_word-automaton.result in
    let anew = automaton_anew (name_of names) a in
    let none = none_now c.is_some.ensures c.if-is_some.false in
    let read = then_reads (c.begins.ensures.read names (automata_left more given) _ refl) (framed (automaton_end more given ∷ []) c.behind_word-automaton.ensures.read) in
    sealed_where {f = λ u. automaton_marks u a} (other_place (automaton_end more given) _ tt) none
    (c.ended.ensures.here none names (automata_left more given ∷ []) (λ u. automaton_marks u a) (automaton_end more given) (behind_automata more given ∷ []) c.args.at.now refl anew refl read) read
    (c.ended.ensures.read names (automata_left more given ∷ []) (λ u. automaton_marks u a) (automaton_end more given) (behind_automata more given ∷ []) c.args.at.now refl anew refl read)

pub returns-then-is_some-clause-read : goal.returns-then-is_some-clause-read
returns-then-is_some-clause-read c = λ more given.
    let names = c.args.names.now in
    refused_where c.is_some.ensures c.if-is_some.true
    (then_where (other_word tt (λ none. c.begins.ensures.here none names (automata_left more given) _ refl) (c.begins.ensures.read names (automata_left more given) _ refl))
    (low_where (automaton_end more given) (other_below (automaton_end more given) tt) c.behind_word-automaton.ensures.read))
