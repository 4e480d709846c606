use Rattle.cert_words.proofs.Lemmas.{as_counted, keyword_why, unused_why, word_text, ◌≡◌, true, false, Bool, refl, sym, counted_view}
use Rattle.cert_words.proofs.words.counted_or.Goals as goal

pub returns-clause-word : goal.returns-clause-word
returns-clause-word c = λ t names i new other e. (c.one_of.ensures.one t names i _ _ _ _ e refl refl
    (keyword_why names _ c.args.at.now _ c.place-here.ensures (c.too_many-missed.ensures.verdict names (counted_view c.args.what) (as_counted c.args.what) (sym c.limit.ensures)) tt)).read

pub returns-clause-other : goal.returns-clause-other
returns-clause-other c = λ t names i new other e. (c.one_of.ensures.other t names i _ _ _ _ e refl refl (unused_why names _ c.args.at.now _ c.place-here.ensures c.unused-unused.ensures)).read

pub returns-clause-text : goal.returns-clause-text
returns-clause-text c = λ f old new. word_text _ _ _ _ (c.one_of.ensures.taken_other f new).1

in_either : {P : Type 0} (b : Bool) → (b ≡ true → P) → (b ≡ false → P) → P
in_either true h k = h refl
in_either false h k = k refl

pub returns-clause-here : goal.returns-clause-here
returns-clause-here c = λ none names i new other e. in_either c.one_of.result
    (λ t. (c.one_of.ensures.one t names i _ _ _ _ e refl refl
    (keyword_why names _ c.args.at.now _ c.place-here.ensures (c.too_many-missed.ensures.verdict names (counted_view c.args.what) (as_counted c.args.what) (sym c.limit.ensures)) tt)).here none)
    (λ t. (c.one_of.ensures.other t names i _ _ _ _ e refl refl (unused_why names _ c.args.at.now _ c.place-here.ensures c.unused-unused.ensures)).here none)
