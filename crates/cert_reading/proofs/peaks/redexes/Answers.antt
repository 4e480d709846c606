use Rattle.cert_reading.proofs.Lemmas.{all_behind, at_front, front_counts, known_behind, length_grown, more_of, next_reads, push, refused_reads, room_less}
use Rattle.cert_reading.proofs.Prelude.{between, line, ◌≡◌, ◌+◌, ◌++◌, suc, [], ◌∷◌, length, map, refl, sym, codes, arith, None, append-nil, length-map, seen_push, then_reads, then_nothing}
use Rattle.cert_reading.proofs.Prelude.{framed, as_marks}
use Rattle.cert_reading.proofs.Prelude.{open_before, none_now, name_of, word, redexes, is_few, infeasibility, redexes_from, redexes_marks, line_marks, infeasibility_marks, version_by, automata_by}
use Rattle.cert_reading.proofs.Prelude.{uses_by, redex_view}
use Rattle.cert_reading.proofs.Prelude.{IsUsed, used_by, RedexesUse, numbers_of, used_by_redexes, counts_redexes}
use Rattle.cert_reading.proofs.peaks.redexes.Goals as goal

pub returns-then-is_some-clause-read : goal.returns-then-is_some-clause-read
returns-then-is_some-clause-read c =
    let v = version_by c.args.uses in
    let n = c.len.result + 1 in
    let is : n ≡ suc (length (map redex_view c.redexes.redexes.items)) = omega (arith, c.redexes.redexes.ok.0, c.len.ensures, length-map c.redexes.redexes.items redex_view) in
    refused_reads c.is_some.ensures c.if-is_some.true (then_reads c.redexes.invariant.read (rw is at (c.counted_or.ensures.word c.redexes-test.true c.args.names.now (redexes_from v n) _ _ refl)))

pub infeasibility-evidence-requires : goal.infeasibility-evidence-requires
infeasibility-evidence-requires c =
    let names = c.args.names.now in
    let v = version_by c.args.uses in
    let n = c.len.result + 1 in
    let numbers = c.between_numbers-which.result in
    known_behind v (automata_by c.args.uses) (then_reads (c.counted_or.ensures.word c.redexes-test.true names (redexes_from v n) _ _ refl)
    (framed (infeasibility v ∷ redexes_from v (suc n) ∷ []) (c.between_numbers-which.ensures names))) []
    (front_counts (word (codes "redex") (is_few redexes n ∷ [])) numbers.0 numbers.1.items numbers.2 tt) c.redexes.invariant.known

pub redexes-smaller : goal.redexes-smaller
redexes-smaller c =
    let none = none_now c.is_some.ensures c.if-is_some.false in
    let was = open_before (c.counted_or.ensures.word c.redexes-test.true c.args.names.now (redexes_from (version_by c.args.uses) (c.len.result + 1)) _ _ refl) none in
    let few = c.counted_or.ensures.few c.redexes-test.true none in
    room_less 20000 (length c.redexes.redexes.items) (length c.put.new.list.items) c.redexes.at.refused c.put.new.at.refused was
    (λ none. (length_grown c.redexes.redexes.items _ (c.put.ensures.grown none), omega (arith, c.redexes.redexes.ok.0, c.len.ensures, few)))

pub redexes-preserved : goal.redexes-preserved
redexes-preserved c =
    let names = c.args.names.now in
    let v = version_by c.args.uses in
    let all = automata_by c.args.uses in
    let w = uses_by names c.args.uses in
    let items = c.redexes.redexes.items in
    let done = map redex_view items in
    let n = c.len.result + 1 in
    let numbers = c.between_numbers-which.result in
    let r = redex_view (record { which = numbers.0; pos = numbers.1; rule = numbers.2; evidence = c.infeasibility-evidence.result }) in
    let is : n ≡ suc (length done) = omega (arith, c.redexes.redexes.ok.0, c.len.ensures, length-map items redex_view) in
    let line = then_reads (c.counted_or.ensures.word c.redexes-test.true names (redexes_from v n) _ _ refl)
    (then_reads (framed (infeasibility v ∷ redexes_from v (suc n) ∷ []) (c.between_numbers-which.ensures names))
    (then_nothing (at_front c.infeasibility-evidence.ensures.read) (c.put.ensures.read names c.args.end (redexes_from v (suc n) ∷ [])))) in
    let seen = λ (none : c.put.new.at.refused ≡ None). seen_push redex_view items _ _ (c.put.ensures.grown none) in
    let was = λ (none : c.put.new.at.refused ≡ None). open_before (c.put.ensures.read names c.args.end []) none in
    record {
      read = next_reads (λ k. redexes_from v (suc k)) (λ u. redexes_marks u w 1) done r seen
          (λ none u. push (redexes_marks u w)
          (λ k r. word (codes "redex") (is_few redexes k ∷ []) ∷ (line_marks r.which r.position r.rule ++ infeasibility_marks u w r.evidence))
          (λ k. refl) (λ k r rs. refl) 1 (suc (length done)) done _ (omega arith)) c.redexes.invariant.read (rw is at line);
      plain = λ none. rw (seen none) (more_of (RedexesUse v all) (λ x xs ys. all_behind (IsUsed v all) (used_by x.evidence) (used_by_redexes xs) (used_by_redexes ys)) done _
          (rw append-nil (c.infeasibility-evidence.ensures.plain (was none)))
          (c.redexes.invariant.plain (open_before line none)));
      known = known_behind v all (as_marks (λ none u. sym (append-nil _)) line) (numbers_of w (used_by_redexes (r ∷ []))) (counts_redexes (r ∷ []) (name_of names) w n) c.redexes.invariant.known;
    }

pub returns-clause-read : goal.returns-clause-read
returns-clause-read c =
    let names = c.args.names.now in
    let v = version_by c.args.uses in
    let n = c.len.result + 1 in
    let is : n ≡ suc (length (map redex_view c.redexes.redexes.items)) = omega (arith, c.redexes.redexes.ok.0, c.len.ensures, length-map c.redexes.redexes.items redex_view) in
    then_reads c.redexes.invariant.read (then_reads (rw is at (c.counted_or.ensures.other c.redexes-test.false names (redexes_from v n) _ _ refl)) (c.text.ensures.read names _ _ refl))

pub returns-clause-plain : goal.returns-clause-plain
returns-clause-plain c = λ none.
    let ends = c.counted_or.ensures.other c.redexes-test.false c.args.names.now (redexes_from (version_by c.args.uses) (c.len.result + 1)) _ _ refl in
    c.redexes.invariant.plain (open_before ends (open_before (c.text.ensures.read c.args.names.now (between line) [] refl) none))
