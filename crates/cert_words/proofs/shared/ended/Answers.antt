use Rattle.cert_words.proofs.Lemmas.{end_read, end_stuck, end_stopped, none_now, refl}
use Rattle.cert_words.proofs.shared.ended.Goals as goal

pub returns-in-Ok-true-clause-read : goal.returns-in-Ok-true-clause-read
returns-in-Ok-true-clause-read c = λ names from f i new a q anew e x.
    let none = none_now c.is_some.ensures c.if-is_some.false in
    end_read e (cc (c.split_at.ensures.front, c.saturating_sub.ensures, q)) c.in-Ok-true.ensures.good anew none x none refl c.in-Ok-true.field-0-test c.in-Ok-true.ensures.new

pub returns-in-Ok-false-clause-read : goal.returns-in-Ok-false-clause-read
returns-in-Ok-false-clause-read c = λ names from f i new a q anew e x.
    end_stopped e (cc (c.split_at.ensures.front, c.saturating_sub.ensures, q)) c.in-Ok-false.ensures.good anew (none_now c.is_some.ensures c.if-is_some.false) x c.place.result refl refl
    (cc (c.place.ensures, q)) c.in-Ok-false.field-0-test c.in-Ok-false.ensures.new

pub returns-in-Ok-false-clause-here : goal.returns-in-Ok-false-clause-here
returns-in-Ok-false-clause-here c = λ none names from f i new a q anew e x.
    end_stuck e (cc (c.split_at.ensures.front, c.saturating_sub.ensures, q)) c.in-Ok-false.ensures.good anew none x c.place.result (cc (c.place.ensures, q)) c.in-Ok-false.field-0-test
