use Rattle.cert_words.proofs.Lemmas.{text_run, refl}
use Rattle.cert_words.proofs.words.either.Goals as goal

pub returns-clause-one : goal.returns-clause-one
returns-clause-one c = λ t names i new other e. (c.one_of.ensures.one t names i _ _ _ _ e refl refl (λ w rest f. text_run f)).read

pub returns-clause-other : goal.returns-clause-other
returns-clause-other c = λ t names i new other e. (c.one_of.ensures.other t names i _ _ _ _ e refl refl (λ w rest f. text_run f)).read
