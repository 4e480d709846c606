use Rattle.cert_words.proofs.Lemmas.{none_now, not_there}
use Rattle.cert_words.proofs.choices.first.Goals as goal

pub returns-in-None : goal.returns-in-None
returns-in-None c = not_there c.args.leads.now (none_now c.is_some.ensures c.if-is_some.false) c.in-None.ensures c.stuck.ensures
