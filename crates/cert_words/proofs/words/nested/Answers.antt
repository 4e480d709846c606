use Rattle.cert_words.proofs.Lemmas.{keyword_why, refl}
use Rattle.cert_words.proofs.words.nested.Goals as goal

pub returns-clause-read : goal.returns-clause-read
returns-clause-read c = λ names i new e. (c.alone.ensures.word names i _ _ _ e refl (keyword_why names _ c.args.at.now _ c.place-here.ensures (c.too_deep.ensures.verdict names) tt)).read
