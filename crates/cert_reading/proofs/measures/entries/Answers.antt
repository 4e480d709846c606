use Rattle.cert_reading.proofs.Lemmas.{low_unopened, entry_at, then_where, then_nothing_where, low_where, length_grown, next_where, push, room_less}
use Rattle.cert_reading.proofs.Prelude.{measured_marks, ◌++◌, coefficients_marks, fixed, codes, ◌≡◌, ◌+◌, suc, [], ◌∷◌, length, map, refl, arith, seen_push, entries_from, entries_marks}
use Rattle.cert_reading.proofs.Prelude.{coefficients_behind, open_before, then_nothing, length-map, linear_entry_view}
use Rattle.cert_reading.proofs.measures.entries.Goals as goal

pub entries-smaller : goal.entries-smaller
entries-smaller c = room_less 25000 (length c.entries.entries.items) (length c.put.new.list.items) c.entries.at.refused c.put.new.at.refused c.in-Some.ensures.unrefused (λ none.
    let few = c.in-Some.ensures.few (open_before (c.coefficients-coeffs.ensures c.args.names.now) (open_before (c.put.ensures.read c.args.names.now c.args.end []) none)) in (
      length_grown c.entries.entries.items _ (c.put.ensures.grown none),
      omega (arith, c.entries.entries.ok.0, c.len.ensures, few),
    ))

pub entries-preserved : goal.entries-preserved
entries-preserved c = λ v.
    let items = c.entries.entries.items in
    let done = map linear_entry_view items in
    let n = c.len.result + 1 in
    let low = entries_from v (suc n) in
    let is : n ≡ suc (length done) = omega (arith, c.entries.entries.ok.0, c.len.ensures, length-map items linear_entry_view) in
    let line = then_where (c.in-Some.ensures.head v (entries_from v n) low (coefficients_behind 0) (entry_at v n)) (low_where low (low_unopened v low (entry_at v n).later)
    (then_nothing (c.coefficients-coeffs.ensures c.args.names.now) (c.put.ensures.read c.args.names.now c.args.end []))) in
    next_where (λ k. entries_from v (suc k)) (λ u. entries_marks u 1) done _ (λ none. seen_push linear_entry_view items _ _ (c.put.ensures.grown none))
    (λ none u. push (entries_marks u) (λ k e. measured_marks u k e.head ++ (coefficients_marks 1 e.coefficients ++ (fixed (codes "\n") ∷ [])))
    (λ k. refl) (λ k e es. refl) 1 (suc (length done)) done _ (omega arith)) (c.entries.invariant v) (rw is at line)

pub returns-clause-read : goal.returns-clause-read
returns-clause-read c = λ v.
    let done = map linear_entry_view c.entries.entries.items in
    let n = c.len.result + 1 in
    let is : n ≡ suc (length done) = omega (arith, c.entries.entries.ok.0, c.len.ensures, length-map c.entries.entries.items linear_entry_view) in
    then_nothing_where (c.entries.invariant v) (rw is at (c.in_default.ensures.none v (entries_from v n) (entries_from v (suc n)) (coefficients_behind 0) (entry_at v n)))
