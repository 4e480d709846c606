use Rattle.cert_words.proofs.Lemmas.{judged_word, only, [], ◌∷◌, ◌∙◌, map, ap, Lead, plain}
use Rattle.cert_words.proofs.choices.alone.Goals as goal

pub returns-in-Some-clause-word : goal.returns-in-Some-clause-word
returns-in-Some-clause-word c = λ names i a marks to e q why. judged_word c.in-Some.ensures c.judged.ensures (why _ _ (only e q c.in-Some.ensures))

pub returns-in_default-clause-word : goal.returns-in_default-clause-word
returns-in_default-clause-word c = λ names i a marks to e q why. c.in_default.ensures.at names i (ap (map plain) e ∙ ap (λ (b : Lead). b ∷ []) q) marks to
