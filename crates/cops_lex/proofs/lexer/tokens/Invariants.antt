use Rattle.std.proofs.Common.{◌≡◌}
use Rattle.cops_lex.specs.Reading.{HasRead, left}
use Rattle.cops_lex.proofs.lexer.tokens.Given as goal

abbrev pub invariant-tokens : goal.invariant-tokens
invariant-tokens l = record {
  text : l.lexer.bytes ≡ l.bytes;
  read : HasRead l.lexer l.out.items;
}

abbrev pub decreases-tokens : goal.decreases-tokens
decreases-tokens l = left l.lexer
