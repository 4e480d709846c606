use Rattle.cert_reading.proofs.Lemmas.{word_where, other_place, none_refused}
use Rattle.cert_reading.proofs.Prelude.{[], ◌∷◌, codes, refl, second_version, simplified, simplification_count, text, body, none_now, one, text_run, go}
use Rattle.cert_reading.proofs.headings.simplified_word.Goals as goal

pub returns-in-Some-clause-steps : goal.returns-in-Some-clause-steps
returns-in-Some-clause-steps c = λ names.
    let i = simplified c.args.given in
    word_where (λ x. other_place i _ tt) (λ x. none_refused c.args.at.now _ (none_now c.is_some.ensures c.if-is_some.false))
    (go c.is_some.ensures c.if-is_some.false (text_run (one {a = text (codes "simplify ") (simplification_count ∷ body second_version c.args.given ∷ [])} refl c.in-Some.ensures)))

pub returns-clause-kind : goal.returns-clause-kind
returns-clause-kind c = λ names.
    let i = simplified c.args.given in
    c.kind_among.ensures names second_version i (rw c.in_default.ensures refl) refl (other_place i _ tt)
