use Rattle.cert_words.proofs.Lemmas.{bad_bar, bad_name, front_at, name_found, name_read, named, second, variable_read, refl, ap, map, plain}
use Rattle.cert_words.proofs.nodes.next_node.Goals as goal

pub returns-in_default-clause-read : goal.returns-in_default-clause-read
returns-in_default-clause-read c = λ i new other e. (c.in_default.ensures.at c.args.names.now i (ap (map plain) e) _ _).read

pub returns-in_default-symbol-clause-read : goal.returns-in_default-symbol-clause-read
returns-in_default-symbol-clause-read c = λ i new other e.
    let f = front_at 0 e refl c.in-Some.ensures c.if-found-eq0.true in
    (bad_name c.in-Some.ensures f (c.in_default-symbol.ensures (named f))).read

pub returns-then-found-eq0-clause-read : goal.returns-then-found-eq0-clause-read
returns-then-found-eq0-clause-read c = λ i new other e. (name_read c.in-Some.ensures c.judged.ensures (front_at 0 e refl c.in-Some.ensures c.if-found-eq0.true) c.in-Some-symbol.ensures
    (c.missed.ensures.refused c.args.names.now) tt).read

pub returns-then-found-eq0-clause-found : goal.returns-then-found-eq0-clause-found
returns-then-found-eq0-clause-found c = λ none. name_found c.args.names.now _ _ c.in-Some-symbol.ensures

pub returns-in_default-bar_number-clause-read : goal.returns-in_default-bar_number-clause-read
returns-in_default-bar_number-clause-read c = λ i new other e. (bad_bar c.in-Some.ensures (second e refl c.in-Some.ensures c.if-found-eq0.false) c.in_default-bar_number.ensures).read

pub returns-clause-read : goal.returns-clause-read
returns-clause-read c = λ i new other e. (variable_read c.in-Some.ensures c.judged-2.ensures (second e refl c.in-Some.ensures c.if-found-eq0.false) c.in-Some-bar_number.ensures
    (c.missed-2.ensures.refused c.args.names.now) tt).read
