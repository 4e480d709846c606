use Rattle.cert_writing.proofs.Prelude.{joined, Left, texts}
use Rattle.cert_writing.proofs.numbers.put_texts.Given as goal

abbrev pub invariant-texts : goal.invariant-texts
invariant-texts g l = Left g.O.Output.took (λ vs. joined (texts vs)) l.text-items l.text-index l.fn.to l.to
