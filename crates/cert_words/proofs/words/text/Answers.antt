use Rattle.cert_words.proofs.Lemmas.{text_run, refl}
use Rattle.cert_words.proofs.words.text.Goals as goal

pub returns-clause-read : goal.returns-clause-read
returns-clause-read c = λ names i new e. (c.alone.ensures.word names i _ _ _ e refl (λ w rest f. text_run f)).read

pub returns-clause-here : goal.returns-clause-here
returns-clause-here c = λ none names i new e. (c.alone.ensures.word names i _ _ _ e refl (λ w rest f. text_run f)).here none
