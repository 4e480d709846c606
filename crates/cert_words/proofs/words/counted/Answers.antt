use Rattle.cert_words.proofs.Lemmas.{as_counted, sym, counted_view}
use Rattle.cert_words.proofs.words.counted.Goals as goal

pub returns-clause-read : goal.returns-clause-read
returns-clause-read c = λ names i new e. (c.few.ensures names i new (counted_view c.args.what) (as_counted c.args.what) (sym c.limit.ensures) e).read

pub returns-clause-here : goal.returns-clause-here
returns-clause-here c = λ none names i new e. (c.few.ensures names i new (counted_view c.args.what) (as_counted c.args.what) (sym c.limit.ensures) e).here none
