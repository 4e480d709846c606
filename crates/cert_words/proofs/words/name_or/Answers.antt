use Rattle.cert_words.proofs.Lemmas.{bad_name, front_at, judged_word, name_found, name_read, named, second, text_run, refl, ap, map, plain}
use Rattle.cert_words.proofs.words.name_or.Goals as goal

pub returns-in_default-clause-other : goal.returns-in_default-clause-other
returns-in_default-clause-other c = λ i new other e. (c.in_default.ensures.at c.args.names.now i (ap (map plain) e) _ _).read

pub returns-then-found-ne0-clause-other : goal.returns-then-found-ne0-clause-other
returns-then-found-ne0-clause-other c = λ i new other e. (judged_word c.in-Some.ensures c.judged.ensures (text_run (second e refl c.in-Some.ensures c.if-found-ne0.true))).read

pub returns-in_default-symbol-clause-other : goal.returns-in_default-symbol-clause-other
returns-in_default-symbol-clause-other c = λ i new other e.
    let f = front_at 0 e refl c.in-Some.ensures c.if-found-ne0.false in
    (bad_name c.in-Some.ensures f (c.in_default-symbol.ensures (named f))).read

pub returns-clause-name : goal.returns-clause-name
returns-clause-name c = λ i new other e.
    (name_read c.in-Some.ensures c.judged-2.ensures (front_at 0 e refl c.in-Some.ensures c.if-found-ne0.false) c.in-Some-symbol.ensures refl tt).read

pub returns-clause-found : goal.returns-clause-found
returns-clause-found c = name_found c.args.names.now _ _ c.in-Some-symbol.ensures
