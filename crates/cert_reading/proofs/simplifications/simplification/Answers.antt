use Rattle.cert_reading.proofs.Lemmas.{known_behind, at_front, read_on, known_still}
use Rattle.cert_reading.proofs.Prelude.{[], ◌∷◌, map, refl, sym, append-nil, dropped, inlined, second_version, between, then_reads, as_marks, name_of, used_by_steps, number_in, space}
use Rattle.cert_reading.proofs.Prelude.{infeasibility, automaton_view, numbers_of, by_number, inf_evidence_view, simplifications_left, counts_steps}
use Rattle.cert_reading.proofs.simplifications.simplification.Goals as goal

pub infeasibility-evidence-requires : goal.infeasibility-evidence-requires
infeasibility-evidence-requires c =
    let names = c.args.names.now in
    let front = then_reads (c.either.ensures.one c.if-either.true names (simplifications_left 0) _ _ refl)
    (read_on (c.number-rule.ensures.read names _ _ refl) (at_front {more = infeasibility second_version ∷ []} (c.text.ensures.read names (between space) _ refl))) in
    known_still second_version (map automaton_view c.args.automata.now) front (tt, (tt, (tt, tt))) c.requires

pub returns-then-either-clause-read : goal.returns-then-either-clause-read
returns-then-either-clause-read c = λ more.
    let names = c.args.names.now in
    as_marks (λ none u. sym (append-nil _)) (then_reads (c.either.ensures.one c.if-either.true names (simplifications_left more) _ _ refl)
    (read_on (c.number-rule.ensures.read names _ _ refl) (read_on (c.text.ensures.read names _ _ refl) (at_front c.infeasibility-evidence.ensures.read))))

pub returns-then-either-clause-plain : goal.returns-then-either-clause-plain
returns-then-either-clause-plain c = λ none. rw append-nil (c.infeasibility-evidence.ensures.plain none)

pub returns-then-either-clause-known : goal.returns-then-either-clause-known
returns-then-either-clause-known c =
    let names = c.args.names.now in
    let all = map automaton_view c.args.automata.now in
    let w = by_number (number_in names all) in
    let ss = dropped c.number-rule.result (inf_evidence_view c.infeasibility-evidence.result) ∷ [] in
    known_behind second_version all (returns-then-either-clause-read c 0) (numbers_of w (used_by_steps ss)) (counts_steps ss (name_of names) w) c.requires

pub returns-clause-read : goal.returns-clause-read
returns-clause-read c = λ more.
    let names = c.args.names.now in
    then_reads (c.either.ensures.other c.if-either.false names (simplifications_left more) _ _ refl) (read_on (c.number-rule-2.ensures.read names _ _ refl)
    (read_on (c.text-2.ensures.read names _ _ refl) (read_on (c.number-cond.ensures.read names _ _ refl) (at_front (c.text-3.ensures.read names _ _ refl)))))

pub returns-clause-known : goal.returns-clause-known
returns-clause-known c =
    let names = c.args.names.now in
    let all = map automaton_view c.args.automata.now in
    let w = by_number (number_in names all) in
    let ss = inlined c.number-rule-2.result c.number-cond.result ∷ [] in
    known_behind second_version all (returns-clause-read c 0) (numbers_of w (used_by_steps ss)) (counts_steps ss (name_of names) w) c.requires
