use Rattle.cert_reading.proofs.Lemmas.{word_where, none_refused}
use Rattle.cert_reading.proofs.Prelude.{◌≡◌, ◌∙◌, [], ◌∷◌, Some, false, is_some, sym, refl, syntax, fits_answer, keyword, front_of, keyword_run, one_stop, go, stop}
use Rattle.cert_reading.proofs.headings.judged.Goals as goal

pub returns-then-fits : goal.returns-then-fits
returns-then-fits c = λ names end i w read new place first there.
    let none : false ≡ is_some c.args.at.now.refused = rw c.requires refl in
    word_where (λ x. place) (λ x. none_refused c.args.at.now _ c.requires)
    (go none refl (keyword_run (front_of (keyword w (fits_answer c.args.told c.args.given ∷ []) new) first there) (λ at. rw (sym c.fits.ensures ∙ c.if-fits.true) refl) tt))

pub returns-else-fits : goal.returns-else-fits
returns-else-fits c = λ names end i w read new place first there.
    let out = one_stop names end (front_of (keyword w (fits_answer c.args.told c.args.given ∷ []) new) first there) c.args.at.now.shares (Some (syntax, 0))
    (rw (sym c.fits.ensures ∙ c.if-fits.false) refl) in
    let none : false ≡ is_some c.args.at.now.refused = rw c.requires refl in
    word_where (λ x. place) (λ x. out) (stop none refl out)
