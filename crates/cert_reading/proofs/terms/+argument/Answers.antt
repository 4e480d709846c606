use Rattle.cert_reading.proofs.Lemmas.{so_far, so_far_push, size_push, symbol_alone, symbol_read, either_end}
use Rattle.cert_reading.proofs.Prelude.{◌≡◌, ◌+◌, ◌-◌, ◌∙◌, ℕ, suc, refl, sym, ap, length, map, List, [], ◌∷◌, ◌++◌, None, codes, arith, length_push, length-map, Term, app, size, size_all}
use Rattle.cert_reading.proofs.Prelude.{terms_of, view, views, view-Var, view-Fun, name_of, is_number, fixed, term_marks, node, name_behind, term_behind, arity_at, seen_push, then_reads}
use Rattle.cert_reading.proofs.Prelude.{then_nothing, as_reads, as_marks, open_before, none_now, some_now, arity_met, node_leads, refused_node, any_frame, frames, frames_deep, argument_end}
use Rattle.cert_reading.proofs.Prelude.{behind_argument}
use Rattle.cert_reading.proofs.terms.+argument.Goals as goal

pub argument-returns-then-is_some-clause-read : goal.argument-returns-then-is_some-clause-read
argument-returns-then-is_some-clause-read t c = λ g fs e.
    let n = c.args.n in
    let err = some_now c.is_some.ensures c.if-is_some.true in
    refused_node c.args.names.now c.args.end (node n (g ∷ fs)) c.args.depth n (λ name. name_behind (n + 1) name (g ∷ fs) ∷ []) (term_behind (n + 1) (g ∷ fs) ∷ []) _ _ c.args.at.now
    c.next_node-node.new.at c.next_node-node.result err.0 err.1
    (c.next_node-node.ensures.read (node n (g ∷ fs)) (λ name. name_behind (n + 1) name (g ∷ fs) ∷ []) (term_behind (n + 1) (g ∷ fs) ∷ []) (node_leads n c.args.depth g fs e))

pub argument-returns-in-Variable-clause-read : goal.argument-returns-in-Variable-clause-read
argument-returns-in-Variable-clause-read t c = λ g fs e.
    let names = c.args.names.now in
    let n = c.args.n in
    let comma = c.either-comma.result in
    let i = term_behind (n + 1) (g ∷ fs) in
    as_marks (λ none u. ap (λ (x : Term). term_marks u c.args.depth n x ++ (argument_end comma ∷ [])) (sym (view-Var c.in-Variable.x)))
    (then_reads (c.in-Variable.ensures.read (node n (g ∷ fs)) _ _ (node_leads n c.args.depth g fs e))
    (either_end comma (n + 1) g fs (λ q. c.either-comma.ensures.one q names i _ _ refl) (λ q. c.either-comma.ensures.other q names i _ _ refl)))

pub argument-returns-in-Comma-clause-read : goal.argument-returns-in-Comma-clause-read
argument-returns-in-Comma-clause-read t c = λ g fs e.
    let names = c.args.names.now in
    let n = c.args.n in
    let f = c.in-Symbol.f in
    symbol_alone c.args.depth n f _ (fixed (codes ",")) (view-Fun f c.new.result ∙ ap (λ l. app f (views l)) c.new.ensures.items)
    (c.in-Symbol.ensures.read (node n (g ∷ fs)) _ _ (node_leads n c.args.depth g fs e))
    (then_reads (c.in-Comma.ensures.comma refl names f 0 _ _ _ _ refl
    (arity_met names f 0 c.has_so_many.result (c.in-Symbol.ensures.found (none_now c.is_some.ensures c.if-is_some.false)) c.has_so_many.ensures))
    (c.text.ensures.read names _ _ refl))

pub argument-returns-in-Close-clause-read : goal.argument-returns-in-Close-clause-read
argument-returns-in-Close-clause-read t c = λ g fs e.
    let names = c.args.names.now in
    let n = c.args.n in
    let f = c.in-Symbol.f in
    symbol_alone c.args.depth n f _ (fixed (codes ")")) (view-Fun f c.new-in-Close.result ∙ ap (λ l. app f (views l)) c.new-in-Close.ensures.items)
    (c.in-Symbol.ensures.read (node n (g ∷ fs)) _ _ (node_leads n c.args.depth g fs e))
    (then_reads (c.in-Close.ensures.close refl names f 0 _ _ _ _ refl
    (arity_met names f 0 c.has_so_many.result (c.in-Symbol.ensures.found (none_now c.is_some.ensures c.if-is_some.false)) c.has_so_many.ensures))
    (c.text-in-Close.ensures.read names _ _ refl))

pub argument-returns-in-Open-clause-read : goal.argument-returns-in-Open-clause-read
argument-returns-in-Open-clause-read t c = λ g fs e.
    let names = c.args.names.now in
    let n = c.args.n in
    let f = c.in-Symbol.f in
    let name = name_of names f in
    let found = c.in-Symbol.ensures.found (none_now c.is_some.ensures c.if-is_some.false) in
    let args = c.arguments-args.result.0 in
    let k = length args.items in
    let many : c.len.result ≡ k = omega (arith, args.ok.0, c.len.ensures) in
    let met = arity_met names f k c.has_so_many-in-Open.result found (c.has_so_many-in-Open.ensures ∙ ap (λ (m : ℕ). is_number m (arity_at names f)) many) in
    let deeper : suc (suc (length (g ∷ fs))) ≡ c.args.depth + 1 = omega (arith, e) in
    symbol_read c.args.depth n f k (map view args.items) _ (argument_end c.argument_closed-comma.result) (view-Fun f args) (sym (length-map args.items view))
    (c.in-Symbol.ensures.read (node n (g ∷ fs)) _ _ (node_leads n c.args.depth g fs e)) (c.in-Open.ensures.opened refl names f 0 _ _ _ _ refl)
    (c.arguments-args.ensures.read name (g ∷ fs) deeper) c.arguments-args.ensures.some (c.argument_closed-comma.ensures names f k c.arguments-args.result.1 g fs met)

pub argument-returns-in-Open-clause-counted : goal.argument-returns-in-Open-clause-counted
argument-returns-in-Open-clause-counted t c = λ none.
    let names = c.args.names.now in
    let f = c.in-Symbol.f in
    let found = c.in-Symbol.ensures.found (none_now c.is_some.ensures c.if-is_some.false) in
    let args = c.arguments-args.result.0 in
    let k = length args.items in
    let many : c.len.result ≡ k = omega (arith, args.ok.0, c.len.ensures) in
    let met = arity_met names f k c.has_so_many-in-Open.result found (c.has_so_many-in-Open.ensures ∙ ap (λ (m : ℕ). is_number m (arity_at names f)) many) in
    let last = c.argument_closed-comma.ensures names f k c.arguments-args.result.1 any_frame [] met in
    omega (arith, c.arguments-args.ensures.counted (open_before last none), ap size (view-Fun f args))

pub arguments-arguments-preserved : goal.arguments-arguments-preserved
arguments-arguments-preserved t c =
    let names = c.args.names.now in
    let d = c.args.depth in
    let n = c.args.n in
    let items = c.arguments.args.items in
    let new = c.put.new.list.items in
    let k = length items in
    let arg = c.argument-arg.result.0 in
    let comma = c.argument-arg.result.1 in
    let next = c.argument-arg.result.2 in
    let put_none : c.put.new.at.refused ≡ None → c.argument-arg.new.at.refused ≡ None = λ none. open_before (c.put.ensures.read names c.args.end []) none in
    let was_open : c.put.new.at.refused ≡ None → c.arguments.at.refused ≡ None =
    λ none. open_before (c.argument-arg.ensures.read any_frame (frames (d - 2)) (frames_deep d c.requires.inner)) (put_none none) in
    let longer : c.put.new.at.refused ≡ None → length new ≡ k + 1 = λ none. ap length (c.put.ensures.grown none) ∙ length_push items arg in
    let seen : c.put.new.at.refused ≡ None → map view new ≡ map view items ++ view arg ∷ [] = λ none. seen_push view items new arg (c.put.ensures.grown none) in
    let before : c.put.new.at.refused ≡ None → c.arguments.next ≡ n + size_all (terms_of (map view items)) = λ none. c.arguments.invariant.counted (was_open none) in
    record {
      read = λ name fs e.
          as_reads (λ none. let l = longer none in let m : suc k ≡ length new = omega (arith, l) in (
            ap (λ (j : ℕ). behind_argument comma next (record { name = name; argument = j }) fs ∷ []) m,
            λ u. so_far_push comma u d n c.arguments.next (map view items) (view arg) (before none) ∙ ap (so_far comma u d n) (sym (seen none)),
          )) (then_reads (rw c.arguments-test.true at (c.arguments.invariant.read name fs e)) (then_nothing (c.argument-arg.ensures.read (record { name = name; argument = suc k }) fs e)
          (c.put.ensures.read names c.args.end (behind_argument comma next (record { name = name; argument = suc k }) fs ∷ []))));
      counted = λ none.
          let same = ap (λ (ts : List Term). size_all (terms_of ts)) (seen none) in
          omega (arith, c.argument-arg.ensures.counted (put_none none), before none, size_push (map view items) (view arg), same);
      some = λ none q. let l = longer none in omega (arith, l);
      low = (let a = c.arguments.invariant.low in let b = c.argument-arg.ensures.low in omega (arith, a, b));
      high = c.argument-arg.ensures.many;
    }

pub arguments-returns-clause-read : goal.arguments-returns-clause-read
arguments-returns-clause-read t c = λ name fs e. rw c.arguments-test.false at (c.arguments.invariant.read name fs e)
