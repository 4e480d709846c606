use Rattle.cert_words.proofs.Prelude.{refl, simplifications}
use Rattle.cert_words.proofs.words.counted_steps.Goals as goal

pub returns : goal.returns
returns c = λ names i new e. (c.few.ensures names i new simplifications refl refl e).read
