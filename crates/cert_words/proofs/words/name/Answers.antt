use Rattle.cert_words.proofs.Lemmas.{bad_name, name_read, named, only, refl, ap, map, plain}
use Rattle.cert_words.proofs.words.name.Goals as goal

pub returns-in_default : goal.returns-in_default
returns-in_default c = λ i new e. (c.in_default.ensures.at c.args.names.now i (ap (map plain) e) _ _).read

pub returns-in_default-symbol : goal.returns-in_default-symbol
returns-in_default-symbol c = λ i new e.
    let f = only e refl c.in-Some.ensures in
    (bad_name c.in-Some.ensures f (c.in_default-symbol.ensures (named f))).read

pub returns : goal.returns
returns c = λ i new e. (name_read c.in-Some.ensures c.judged.ensures (only e refl c.in-Some.ensures) c.in-Some-symbol.ensures refl tt).read
