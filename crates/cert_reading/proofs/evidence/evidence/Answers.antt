use Rattle.cert_reading.proofs.Lemmas.{past, read_on, known_still}
use Rattle.cert_reading.proofs.Prelude.{◌≡◌, List, codes, map, Version, first_version, second_version, space, line, derivations_left, leads, Choice, lead_of, [], ◌∷◌, refl, arith, any_number}
use Rattle.cert_reading.proofs.Prelude.{then_reads, evidence, use_between, use_item, framed, version_by, automata_by}
use Rattle.cert_reading.proofs.evidence.evidence.Goals as goal

abbrev kinds : Version → List Choice
kinds v =
    record { bytes = codes "trivial\n"; items = [] }
    ∷ record { bytes = codes "conflict "; items = any_number space ∷ any_number line ∷ [] }
    ∷ record { bytes = codes "join\n"; items = derivations_left 1 0 ∷ derivations_left 1 0 ∷ [] }
    ∷ record { bytes = codes "unfeasible "; items = any_number line ∷ derivations_left 1 0 ∷ derivations_left 1 0 ∷ [] }
    ∷ record { bytes = codes "tcap\n"; items = [] }
    ∷ record { bytes = codes "auto "; items = any_number (use_between v) ∷ use_item v ∷ [] } ∷ []

are_kinds : (v : Version) → leads (evidence v) ≡ map lead_of (kinds v)
are_kinds first_version = refl
are_kinds second_version = refl

pub returns-in-0-clause-read : goal.returns-in-0-clause-read
returns-in-0-clause-read c = rw c.in-0.is at (c.choose.ensures.chosen c.args.names.now (evidence (version_by c.args.uses)) (kinds (version_by c.args.uses)) (are_kinds (version_by c.args.uses)) refl)

pub returns-in-1-clause-read : goal.returns-in-1-clause-read
returns-in-1-clause-read c =
    let names = c.args.names.now in
    let v = version_by c.args.uses in
    then_reads (rw c.in-1.is at (c.choose.ensures.chosen names (evidence v) (kinds v) (are_kinds v) refl)) (read_on (c.number-inner.ensures.read names _ _ refl)
    (read_on (c.text.ensures.read names _ _ refl) (read_on (c.number-outer.ensures.read names _ _ refl) (c.text-in-1.ensures.read names _ _ refl))))

pub returns-in-2-clause-read : goal.returns-in-2-clause-read
returns-in-2-clause-read c =
    let names = c.args.names.now in
    let v = version_by c.args.uses in
    then_reads (rw c.in-2.is at (c.choose.ensures.chosen names (evidence v) (kinds v) (are_kinds v) refl)) (read_on (c.derivation-left.ensures names 0) (c.derivation-right.ensures names 0))

pub returns-in-3-clause-read : goal.returns-in-3-clause-read
returns-in-3-clause-read c =
    let names = c.args.names.now in
    let v = version_by c.args.uses in
    then_reads (rw c.in-3.is at (c.choose.ensures.chosen names (evidence v) (kinds v) (are_kinds v) refl)) (read_on (c.number-cond.ensures.read names _ _ refl)
    (read_on (c.text-in-3.ensures.read names _ _ refl) (read_on (c.derivation-first.ensures names 0) (c.derivation-second.ensures names 0))))

pub returns-in-4-clause-read : goal.returns-in-4-clause-read
returns-in-4-clause-read c = rw c.in-4.is at (c.choose.ensures.chosen c.args.names.now (evidence (version_by c.args.uses)) (kinds (version_by c.args.uses)) (are_kinds (version_by c.args.uses)) refl)

pub used_automaton-automaton-requires : goal.used_automaton-automaton-requires
used_automaton-automaton-requires c =
    let names = c.args.names.now in
    let v = version_by c.args.uses in
    let number = c.number-cond-in-5.ensures.read names (any_number (use_between v)) _ refl in
    known_still v (automata_by c.args.uses) (then_reads (rw c.in-5.is at (c.choose.ensures.chosen names (evidence v) (kinds v) (are_kinds v) refl)) (framed (use_item v ∷ []) number))
    (tt, (tt, tt)) c.requires

pub returns-in-5-clause-read : goal.returns-in-5-clause-read
returns-in-5-clause-read c =
    let names = c.args.names.now in
    let v = version_by c.args.uses in
    then_reads (rw c.in-5.is at (c.choose.ensures.chosen names (evidence v) (kinds v) (are_kinds v) refl)) (read_on (c.number-cond-in-5.ensures.read names _ _ refl)
    c.used_automaton-automaton.ensures.read)

pub returns-in_default-clause-read : goal.returns-in_default-clause-read
returns-in_default-clause-read c =
    let names = c.args.names.now in
    let v = version_by c.args.uses in
    past names c.args.end (evidence v) (kinds v) _ _ _ _ _ (let other = c.in_default in omega (arith, other)) (c.choose.ensures.chosen names (evidence v) (kinds v) (are_kinds v) refl)
