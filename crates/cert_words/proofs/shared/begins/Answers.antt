use Rattle.cert_words.proofs.Lemmas.{begins_keeps, keyword_keeps, refl}
use Rattle.cert_words.proofs.shared.begins.Goals as goal

pub returns-clause-read : goal.returns-clause-read
returns-clause-read c = λ names i new e. (c.alone.ensures.word names i _ _ _ e refl (λ w rest f. keyword_keeps f refl (begins_keeps c.args.bytes.now c.args.at.now.shares))).read

pub returns-clause-here : goal.returns-clause-here
returns-clause-here c = λ none names i new e. (c.alone.ensures.word names i _ (λ u. _) _ e refl
    (λ w rest f. keyword_keeps f refl (begins_keeps c.args.bytes.now c.args.at.now.shares))).here none
