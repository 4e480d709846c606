use Rattle.cert_words.proofs.Lemmas.{check_why, refl, name_of}
use Rattle.cert_words.proofs.words.checked.Goals as goal

pub returns : goal.returns
returns c = λ names f n i new e m. (c.alone.ensures.word names i _ _ _ e refl (check_why names _ c.args.at.now f _ c.place-here.ensures (c.wrong_arity.ensures names (name_of names f) n m))).read
