use Rattle.cert_text.proofs.Prelude.{inl, refl}
use Rattle.cert_grammar.specs.Versions.{second_version}
use Rattle.cert_text.proofs.writer.written_is_read.Goals as goal

pub returns : goal.returns
returns c = λ names cert spelt. (second_version, record { spelt = spelt; text = inl refl })
