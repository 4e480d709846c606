use Rattle.cert_words.proofs.Lemmas.{judged_word, text_run, front_at, below, chosen_at, past_last, plain_choices, same_number}
use Rattle.cert_words.proofs.Prelude.{◌∙◌, [], length, map, refl, sym, ap, subst, arith, Lead, Front, plain, bare}
use Rattle.std.proofs.lemmas.List.{length-map}
use Rattle.cert_words.proofs.choices.choose.Goals as goal

pub returns-in-Some-clause-chosen : goal.returns-in-Some-clause-chosen
returns-in-Some-clause-chosen c = λ names i cs e q.
    let x = c.in-Some.found in
    let less = below c.in-Some.ensures in
    chosen_at cs x.which (omega (arith, less, same_number _ cs q, length-map c.args.texts.now bare)) (λ d is. (judged_word c.in-Some.ensures c.judged.ensures
    (text_run (subst (λ (a : Lead). Front c.args.at.now.left.now i a x.word.now x.rest.now) is (front_at x.which e (plain_choices cs ∙ sym q) c.in-Some.ensures refl)))).read)

pub returns-in-None-clause-chosen : goal.returns-in-None-clause-chosen
returns-in-None-clause-chosen c = λ names i cs e q.
    let n = same_number c.args.texts.now cs q in
    past_last names c.args.end i _ _ cs (length c.args.texts.now) c.in-None.ensures.why (omega (arith, n)) c.in-None.ensures.refused
    (c.in-None.ensures.at names i (ap (map plain) e ∙ plain_choices cs ∙ sym q) _ _).read

pub returns-in-None-clause-here : goal.returns-in-None-clause-here
returns-in-None-clause-here c = λ none names i cs e q. (c.in-None.ensures.at names i (ap (map plain) e ∙ plain_choices cs ∙ sym q) (λ u. []) []).here none
