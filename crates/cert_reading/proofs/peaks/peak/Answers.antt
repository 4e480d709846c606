use Rattle.cert_reading.proofs.Lemmas.{at_front, read_on, known_still}
use Rattle.cert_reading.proofs.Prelude.{List, [], ◌∷◌, ◌++◌, codes, refl, ap, Mark, fixed, term_marks, then_reads, as_marks, name_of, derivation_view, derivations_left, framed, apart}
use Rattle.cert_reading.proofs.Prelude.{version_by, automata_by, apart_view, view, derivation_marks, closing, apart_marks, start_line, still_both, term_still, derivation_still, uses_by}
use Rattle.cert_laws.proofs.PathSkeletons.{start_text}
use Rattle.cert_reading.proofs.peaks.peak.Goals as goal

pub apart-apart-requires : goal.apart-apart-requires
apart-apart-requires c =
    let names = c.args.names.now in
    let v = version_by c.args.uses in
    let rest = derivations_left 1 0 ∷ derivations_left 1 0 ∷ apart v ∷ [] in
    let start = view c.start_term-start.result in
    let first = derivation_view c.derivation-first.result in
    let second = derivation_view c.derivation-second.result in
    let line = term_marks (name_of names) 1 1 start ++ (fixed (codes "\n") ∷ []) in
    let front = then_reads (c.text.ensures.read names (start_line v) _ refl)
    (then_reads (framed rest c.start_term-start.ensures) (read_on (c.derivation-first.ensures names 0) (at_front {more = apart v ∷ []} (c.derivation-second.ensures names 0)))) in
    known_still v (automata_by c.args.uses) front (
      tt,
      still_both line (derivation_marks first ++ derivation_marks second) (still_both (term_marks (name_of names) 1 1 start) (fixed (codes "\n") ∷ []) (term_still start (name_of names) 1 1) (tt, tt))
          (still_both (derivation_marks first) (derivation_marks second) (derivation_still first) (derivation_still second)),
    ) c.requires

pub returns-clause-read : goal.returns-clause-read
returns-clause-read c =
    let names = c.args.names.now in
    as_marks (λ none u. ap (λ (ms : List Mark). fixed (codes "start ") ∷ ms)
    (start_text (term_marks u 1 1 (view c.start_term-start.result)) (derivation_marks (derivation_view c.derivation-first.result))
    (derivation_marks (derivation_view c.derivation-second.result)) (apart_marks u (uses_by names c.args.uses) (apart_view c.apart-apart.result)) closing (fixed (codes "\n"))))
    (then_reads (c.text.ensures.read names (start_line (version_by c.args.uses)) _ refl) (read_on c.start_term-start.ensures (read_on (c.derivation-first.ensures names 0)
    (read_on (c.derivation-second.ensures names 0) c.apart-apart.ensures.read))))
