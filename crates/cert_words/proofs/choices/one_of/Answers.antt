use Rattle.cert_words.proofs.Lemmas.{judged_word, front_at, second, [], ◌∷◌, ◌∙◌, map, ap, ap₂, Lead, plain}
use Rattle.cert_words.proofs.choices.one_of.Goals as goal

pub returns-in_default-clause-other : goal.returns-in_default-clause-other
returns-in_default-clause-other c = λ t names i a b marks to e q r why. c.in_default.ensures.at names i (ap (map plain) e ∙ ap₂ (λ (x y : Lead). x ∷ y ∷ []) q r) marks to

pub returns-then-found-eq0-clause-one : goal.returns-then-found-eq0-clause-one
returns-then-found-eq0-clause-one c = λ t names i a b marks to e q r why. judged_word c.in-Some.ensures c.judged.ensures
    (why _ _ (front_at 0 e (ap₂ (λ (x y : Lead). x ∷ y ∷ []) q r) c.in-Some.ensures c.if-found-eq0.true))

pub returns-clause-other : goal.returns-clause-other
returns-clause-other c = λ t names i a b marks to e q r why. judged_word c.in-Some.ensures c.judged-2.ensures
    (why _ _ (second e (ap₂ (λ (x y : Lead). x ∷ y ∷ []) q r) c.in-Some.ensures c.if-found-eq0.false))
