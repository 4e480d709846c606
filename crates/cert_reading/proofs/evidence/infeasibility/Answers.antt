use Rattle.cert_reading.proofs.Lemmas.{read_on, known_still}
use Rattle.cert_reading.proofs.Prelude.{◌≡◌, codes, Version, first_version, second_version, text, leads, [], ◌∷◌, refl, any_number, then_reads, infeasibility, use_between, use_item, framed}
use Rattle.cert_reading.proofs.Prelude.{version_by, automata_by}
use Rattle.cert_reading.proofs.evidence.infeasibility.Goals as goal

are_infeasible : (v : Version) → leads (infeasibility v) ≡ text (codes "tcap\n") [] ∷ text (codes "auto ") (any_number (use_between v) ∷ use_item v ∷ []) ∷ []
are_infeasible first_version = refl
are_infeasible second_version = refl

pub returns-then-either-clause-read : goal.returns-then-either-clause-read
returns-then-either-clause-read c =
    let v = version_by c.args.uses in
    c.either.ensures.one c.if-either.true c.args.names.now (infeasibility v) _ _ (are_infeasible v)

pub used_automaton-automaton-requires : goal.used_automaton-automaton-requires
used_automaton-automaton-requires c =
    let names = c.args.names.now in
    let v = version_by c.args.uses in
    let number = c.number-cond.ensures.read names (any_number (use_between v)) _ refl in
    known_still v (automata_by c.args.uses) (then_reads (c.either.ensures.other c.if-either.false names (infeasibility v) _ _ (are_infeasible v)) (framed (use_item v ∷ []) number))
    (tt, (tt, tt)) c.requires

pub returns-clause-read : goal.returns-clause-read
returns-clause-read c =
    let names = c.args.names.now in
    let v = version_by c.args.uses in
    then_reads (c.either.ensures.other c.if-either.false names (infeasibility v) _ _ (are_infeasible v)) (read_on (c.number-cond.ensures.read names _ _ refl)
    c.used_automaton-automaton.ensures.read)
