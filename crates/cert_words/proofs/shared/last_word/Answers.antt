use Rattle.cert_words.proofs.Lemmas.{unused_why, refl}
use Rattle.cert_words.proofs.shared.last_word.Goals as goal

pub returns : goal.returns
returns c = λ names i new e. (c.alone.ensures.word names i _ _ _ e refl (unused_why names _ c.args.at.now _ c.place.ensures c.unused-missed.ensures)).read
