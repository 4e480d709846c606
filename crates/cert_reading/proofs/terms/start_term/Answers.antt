use Rattle.cert_reading.proofs.Lemmas.{symbol_alone, symbol_read}
use Rattle.cert_reading.proofs.Prelude.{◌≡◌, ◌∙◌, ℕ, refl, sym, ap, length, map, [], ◌∷◌, ◌++◌, codes, arith, length-map, Term, app, view, views, view-Var, view-Fun, arity_at, name_of}
use Rattle.cert_reading.proofs.Prelude.{is_number, fixed, term_marks, node, name_behind, term_behind, then_reads, as_marks, none_now, some_now, arity_met, refused_node}
use Rattle.cert_reading.proofs.terms.start_term.Goals as goal

pub returns-then-is_some : goal.returns-then-is_some
returns-then-is_some c =
    let err = some_now c.is_some.ensures c.if-is_some.true in
    refused_node c.args.names.now c.args.end (node 1 []) 1 1 (λ w. name_behind 2 w [] ∷ []) (term_behind 2 [] ∷ []) _ _ c.args.at.now c.next_node-node.new.at c.next_node-node.result err.0 err.1
    (c.next_node-node.ensures.read (node 1 []) (λ w. name_behind 2 w [] ∷ []) (term_behind 2 [] ∷ []) refl)

pub returns-in-Variable : goal.returns-in-Variable
returns-in-Variable c =
    as_marks (λ none u. ap (λ (x : Term). term_marks u 1 1 x ++ (fixed (codes "\n") ∷ [])) (sym (view-Var c.in-Variable.x)))
    (then_reads (c.in-Variable.ensures.read (node 1 []) _ _ refl) (c.text.ensures.read c.args.names.now _ _ refl))

pub returns-then-not-opened : goal.returns-then-not-opened
returns-then-not-opened c =
    let names = c.args.names.now in
    let f = c.in-Symbol.f in
    let found = c.in-Symbol.ensures.found (none_now c.is_some.ensures c.if-is_some.false) in
    symbol_alone 1 1 f _ (fixed (codes "\n")) (view-Fun f c.new.result ∙ ap (λ l. app f (views l)) c.new.ensures.items) (c.in-Symbol.ensures.read (node 1 []) _ _ refl)
    (then_reads (c.opened.ensures.none c.if-not-opened.true names f 0 _ _ _ refl (arity_met names f 0 c.has_so_many.result found c.has_so_many.ensures))
    (c.text-then-not-opened.ensures.read names _ _ refl))

pub returns-else-not-opened : goal.returns-else-not-opened
returns-else-not-opened c =
    let names = c.args.names.now in
    let f = c.in-Symbol.f in
    let name = name_of names f in
    let found = c.in-Symbol.ensures.found (none_now c.is_some.ensures c.if-is_some.false) in
    let args = c.arguments-args.result.0 in
    let k = length args.items in
    let many : c.len.result ≡ k = omega (arith, args.ok.0, c.len.ensures) in
    let met = arity_met names f k c.has_so_many-in-Symbol.result found (c.has_so_many-in-Symbol.ensures ∙ ap (λ (m : ℕ). is_number m (arity_at names f)) many) in
    symbol_read 1 1 f k (map view args.items) _ (fixed (codes "\n")) (view-Fun f args) (sym (length-map args.items view)) (c.in-Symbol.ensures.read (node 1 []) _ _ refl)
    (c.opened.ensures.opened c.if-not-opened.false names f 0 _ _ _ refl) (c.arguments-args.ensures.read name [] refl) c.arguments-args.ensures.some
    (then_reads (c.checked.ensures names f k _ _ refl met) (c.text-in-Symbol.ensures.read names _ _ refl))
