use Rattle.cert_reading.proofs.Lemmas.{word_where, none_refused}
use Rattle.cert_reading.proofs.Prelude.{◌≡◌, [], ◌∷◌, Some, false, is_some, refl, entries, too_many, is_few, keyword, front_of, keyword_run, one_stop, counted_there, counted_out, go, stop}
use Rattle.cert_reading.proofs.measures.counted_word.Goals as goal

pub returns-then-n-clause-read : goal.returns-then-n-clause-read
returns-then-n-clause-read c = λ names v i w read new place first there.
    let n = c.args.n in
    let out = one_stop names c.args.end (front_of (keyword w (is_few entries n ∷ []) new) first there) c.args.at.now.shares (Some (too_many entries, c.saturating_sub.result))
    (counted_out names _ n _ 25000 entries c.saturating_sub.ensures refl c.if-n.true refl) in
    let none : false ≡ is_some c.args.at.now.refused = rw c.requires refl in
    word_where (λ x. place) (λ x. out) (stop none refl out)

pub returns-else-n-clause-read : goal.returns-else-n-clause-read
returns-else-n-clause-read c = λ names v i w read new place first there.
    let n = c.args.n in
    let none : false ≡ is_some c.args.at.now.refused = rw c.requires refl in
    word_where (λ x. place) (λ x. none_refused c.args.at.now _ c.requires)
    (go none refl (keyword_run (front_of (keyword w (is_few entries n ∷ []) new) first there) (λ at. counted_there names at n 25000 entries refl c.if-n.false) tt))
