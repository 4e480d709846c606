use Rattle.cert_reading.proofs.Lemmas.{low_unopened, head_at, then_where, then_nothing_where, low_where, length_grown, next_where, push, room_less}
use Rattle.cert_reading.proofs.Prelude.{measured_marks, ◌++◌, fixed, codes, ◌≡◌, ◌+◌, suc, [], ◌∷◌, length, map, refl, arith, seen_push, heads_from, heads_marks, between, line, open_before}
use Rattle.cert_reading.proofs.Prelude.{then_nothing, length-map, head_view, second_version}
use Rattle.cert_reading.proofs.measures.precedence.Goals as goal

pub order-smaller : goal.order-smaller
order-smaller c = room_less 25000 (length c.order.order.items) (length c.put.new.list.items) c.order.at.refused c.put.new.at.refused c.in-Some.ensures.unrefused (λ none.
    let few = c.in-Some.ensures.few (open_before (c.text.ensures.read c.args.names.now (between line) [] refl) (open_before (c.put.ensures.read c.args.names.now c.args.end []) none)) in (
      length_grown c.order.order.items _ (c.put.ensures.grown none),
      omega (arith, c.order.order.ok.0, c.len.ensures, few),
    ))

pub order-preserved : goal.order-preserved
order-preserved c =
    let items = c.order.order.items in
    let done = map head_view items in
    let n = c.len.result + 1 in
    let low = heads_from (suc n) in
    let is : n ≡ suc (length done) = omega (arith, c.order.order.ok.0, c.len.ensures, length-map items head_view) in
    let line = then_where (c.in-Some.ensures.head second_version (heads_from n) low (between line) (head_at n)) (low_where low (low_unopened second_version low (head_at n).later)
    (then_nothing (c.text.ensures.read c.args.names.now (between line) [] refl) (c.put.ensures.read c.args.names.now c.args.end []))) in
    next_where (λ k. heads_from (suc k)) (λ u. heads_marks u 1) done _ (λ none. seen_push head_view items _ _ (c.put.ensures.grown none))
    (λ none u. push (heads_marks u) (λ k h. measured_marks u k h ++ (fixed (codes "\n") ∷ [])) (λ k. refl) (λ k h hs. refl) 1 (suc (length done)) done _ (omega arith))
    c.order.invariant (rw is at line)

pub returns-clause-read : goal.returns-clause-read
returns-clause-read c =
    let done = map head_view c.order.order.items in
    let n = c.len.result + 1 in
    let is : n ≡ suc (length done) = omega (arith, c.order.order.ok.0, c.len.ensures, length-map c.order.order.items head_view) in
    then_nothing_where c.order.invariant (rw is at (c.in_default.ensures.none second_version (heads_from n) (heads_from (suc n)) (between line) (head_at n)))
