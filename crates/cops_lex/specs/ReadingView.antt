-- The reading that a `Lexer` stands for.
use Rattle.std.specs.Prelude.{◌≤◌, List, length}
use Rattle.file_text.specs.declared.Token.{Token}
use Rattle.cops_lex.specs.Reading.{Reading, reading, HasRead}
use Rattle.cops_lex.specs.declared.lexer.Lexer.TheInside.{Inside}

abbrev pub reading_view : Inside → Reading
reading_view l = reading l.bytes.now l.at l.count

-- some tokens are read up to a place in the text
pub record IsReadUpTo (r : Reading) : Type 0 where
  pub tokens : List Token
  pub read : HasRead r tokens
  pub within : r.place ≤ length r.bytes
  pub few : r.count ≤ r.place

abbrev pub IsHeld : Inside → Type 0
IsHeld l = IsReadUpTo (reading_view l)
