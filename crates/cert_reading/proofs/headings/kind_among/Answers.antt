use Rattle.cert_reading.proofs.Lemmas.{word_where}
use Rattle.cert_reading.proofs.Prelude.{◌∙◌, refl, body, leads, one, two, three, stuck_among, stop}
use Rattle.cert_reading.proofs.headings.kind_among.Goals as goal

pub returns-in-Some : goal.returns-in-Some
returns-in-Some c = λ names v i same long place.
    c.judged.ensures names c.args.end i _ _ _ place (same ∙ (one {i = body v c.args.given} refl c.in-Some.ensures).first) c.in-Some.ensures

pub returns-in-Some-front : goal.returns-in-Some-front
returns-in-Some-front c = λ names v i same long place.
    c.judged-in-Some-front.ensures names c.args.end i _ _ _ place (same ∙ (two {i = body v c.args.given} refl c.in_default.ensures c.in-Some-front.ensures).first) c.in-Some-front.ensures

pub returns-in-Some-front-2 : goal.returns-in-Some-front-2
returns-in-Some-front-2 c = λ names v i same long place.
    c.judged-in-Some-front-2.ensures names c.args.end i _ _ _ place
    (same ∙ (three {i = body v c.args.given} refl c.in_default.ensures c.in_default-front.ensures c.in-Some-front-2.ensures).first) c.in-Some-front-2.ensures

pub returns : goal.returns
returns c = λ names v i same long place.
    let out = stuck_among names c.args.end c.args.at.now.left.now c.args.at.now.shares i c.stuck.result (leads i) _ refl
    (same ∙ rw (c.in_default.ensures, c.in_default-front.ensures, c.in_default-front-2.ensures) refl) long c.stuck.ensures in
    word_where (λ x. place) (λ x. out) (stop c.is_some.ensures c.if-is_some.false out)
