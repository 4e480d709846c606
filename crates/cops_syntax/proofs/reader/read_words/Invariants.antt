use Rattle.cops_lex.specs.Reading.{left}
use Rattle.cops_syntax.proofs.Words.{IsReadUpTo}
use Rattle.cops_syntax.proofs.reader.read_words.Given as goal

abbrev pub invariant-tokens : goal.invariant-tokens
invariant-tokens g l = IsReadUpTo g.R.WordReader.has_taken l.bytes l.lexer l.reader

abbrev pub decreases-tokens : goal.decreases-tokens
decreases-tokens g l = left l.lexer
