use Rattle.cops_lex.specs.Reading.{left}
use Rattle.cops_lex.proofs.Leads.{LeadsTo}
use Rattle.cops_lex.proofs.lexer.Lexer.finish.Given as goal

abbrev pub invariant-rest : goal.invariant-rest
invariant-rest l = LeadsTo l.fn.self l.self

abbrev pub decreases-rest : goal.decreases-rest
decreases-rest l = left l.self
