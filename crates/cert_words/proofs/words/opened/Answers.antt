use Rattle.cert_words.proofs.Lemmas.{check_why, text_run, refl, name_of}
use Rattle.cert_words.proofs.words.opened.Goals as goal

pub returns-clause-opened : goal.returns-clause-opened
returns-clause-opened c = λ t names f n i new other e. (c.one_of.ensures.one t names i _ _ _ _ e refl refl (λ w rest g. text_run g)).read

pub returns-clause-none : goal.returns-clause-none
returns-clause-none c = λ t names f n i new other e m.
    (c.one_of.ensures.other t names i _ _ _ _ e refl refl (check_why names _ c.args.at.now f _ c.place.ensures (c.wrong_arity-missed.ensures names (name_of names f) n m))).read
