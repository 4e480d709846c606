use Rattle.std.proofs.Common.{◌≤◌, ◌-◌, List, length}
use Rattle.file_text.specs.declared.Token.{Token}
use Rattle.cops_lex.specs.Reading.{reading, HasRead}
use Rattle.cops_lex.proofs.lexer.Lexer.front.Given as goal

abbrev pub invariant-comments : goal.invariant-comments
invariant-comments l = record {
  reads : (ts : List Token) → HasRead (reading l.self-inside.bytes.now l.self-inside.at l.self-inside.count) ts → HasRead (reading l.self-inside.bytes.now l.at l.self-inside.count) ts;
  onward : l.self-inside.at ≤ l.at;
  within : l.at ≤ length l.self-inside.bytes.now;
}

abbrev pub decreases-comments : goal.decreases-comments
decreases-comments l = length l.self-inside.bytes.now - l.at
