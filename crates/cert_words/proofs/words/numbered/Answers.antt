use Rattle.cert_words.proofs.Lemmas.{as_counted, numeral_read, refl, sym, counted_view}
use Rattle.cert_words.proofs.words.numbered.Goals as goal

pub returns-in_default-clause-read : goal.returns-in_default-clause-read
returns-in_default-clause-read c = λ names i new e. (c.in_default.ensures.at names i (_, new, e) _ _).read

pub returns-clause-read : goal.returns-clause-read
returns-clause-read c = λ names i new e. (numeral_read c.in-Some.ensures.0 c.judged.ensures e refl c.in-Some.ensures.1
    (c.too_many.ensures.verdict names (counted_view c.args.what) (as_counted c.args.what) (sym c.limit.ensures)) (λ k. tt)).read
