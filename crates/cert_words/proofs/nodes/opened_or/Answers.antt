use Rattle.cert_words.proofs.Lemmas.{below, check_why, front_at, judged_word, text_run, refl, ap, map, arith, name_of, plain}
use Rattle.cert_words.proofs.nodes.opened_or.Goals as goal

pub returns-in_default-clause-close : goal.returns-in_default-clause-close
returns-in_default-clause-close c = λ t names f n i new comma close e m. (c.in_default.ensures.at names i (ap (map plain) e) _ _).read

pub returns-then-found-eq0-clause-opened : goal.returns-then-found-eq0-clause-opened
returns-then-found-eq0-clause-opened c = λ t names f n i new comma close e. (judged_word c.in-Some.ensures c.judged.ensures (text_run (front_at 0 e refl c.in-Some.ensures c.if-found-eq0.true))).read

pub returns-then-found-eq1-clause-comma : goal.returns-then-found-eq1-clause-comma
returns-then-found-eq1-clause-comma c = λ t names f n i new comma close e m. (judged_word c.in-Some.ensures c.judged-2.ensures
    (check_why names _ c.args.at.now f _ c.in-Some.ensures.place (c.wrong_arity.ensures names (name_of names f) n m) _ _ (front_at 1 e refl c.in-Some.ensures c.if-found-eq1.true))).read

pub returns-else-found-eq1-clause-close : goal.returns-else-found-eq1-clause-close
returns-else-found-eq1-clause-close c = λ t names f n i new comma close e m.
    let less = below c.in-Some.ensures in
    (judged_word c.in-Some.ensures c.judged-2.ensures (check_why names _ c.args.at.now f _ c.in-Some.ensures.place (c.wrong_arity.ensures names (name_of names f) n m) _ _
    (front_at 2 e refl c.in-Some.ensures (omega (arith, less, c.if-found-eq0.false, c.if-found-eq1.false))))).read
