use Rattle.cert_grammar.proofs.Names.{identifier_is_text}
use Rattle.cert_words.proofs.demands.symbol.Goals as goal

pub returns-in-Err : goal.returns-in-Err
returns-in-Err c = λ h. absurd (c.in-Err.ensures.cases.0 (identifier_is_text c.args.name.now h))
