use Rattle.cert_words.proofs.Lemmas.{check_why, refl, name_of}
use Rattle.cert_words.proofs.nodes.closed_or.Goals as goal

pub returns-clause-comma : goal.returns-clause-comma
returns-clause-comma c = λ t names f n i comma close e m.
    (c.one_of.ensures.one t names i _ _ _ _ e refl refl (check_why names _ c.args.at.now f _ c.place-here.ensures (c.wrong_arity.ensures names (name_of names f) n m))).read

pub returns-clause-close : goal.returns-clause-close
returns-clause-close c = λ t names f n i comma close e m.
    (c.one_of.ensures.other t names i _ _ _ _ e refl refl (check_why names _ c.args.at.now f _ c.place-here.ensures (c.wrong_arity-2.ensures names (name_of names f) n m))).read
