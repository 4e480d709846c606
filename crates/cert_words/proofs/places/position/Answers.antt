use Rattle.cert_words.proofs.Lemmas.{alone_read, judged_word, only, position_run, refused_word, one_stop, spelt_place, refl, ap, map, plain}
use Rattle.cert_words.proofs.places.position.Goals as goal

pub places_of-requires-clause-spelt : goal.places_of-requires-clause-spelt
places_of-requires-clause-spelt c = spelt_place (alone_read c.in-Some.ensures)

pub returns-in_default : goal.returns-in_default
returns-in_default c = λ names i new e. (c.in_default.ensures.at names i (ap (map plain) e) _ _).read

pub returns-in-Ok : goal.returns-in-Ok
returns-in-Ok c = λ names i new e. (judged_word c.in-Some.ensures c.judged.ensures
    (position_run (only e refl c.in-Some.ensures) (c.in-Ok.ensures names).0 (rw c.in-Some.ensures.place at (c.in-Ok.ensures names).1))).read

pub returns-in-Err : goal.returns-in-Err
returns-in-Err c = λ names i new e. (refused_word c.in-Some.ensures (one_stop names c.args.end (only e refl c.in-Some.ensures) c.args.at.now.shares _
    (rw c.in-Some.ensures.place at (c.in-Err.ensures names)))).read
