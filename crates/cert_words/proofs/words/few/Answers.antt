use Rattle.cert_words.proofs.Lemmas.{numeral_read, refl}
use Rattle.cert_words.proofs.words.few.Goals as goal

pub returns-in_default : goal.returns-in_default
returns-in_default c = λ names i new d seen most e. c.in_default.ensures.at names i (_, new, e) _ _

pub returns : goal.returns
returns c = λ names i new d seen most e. numeral_read c.in-Some.ensures.0 c.judged.ensures e refl c.in-Some.ensures.1 (c.too_many.ensures.verdict names d seen most) (λ k. tt)
