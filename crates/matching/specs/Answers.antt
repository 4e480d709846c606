-- What matching answers.
use Rattle.std.specs.Prelude.{Result, Ok, Err}
use Rattle.rewriting.specs.Terms as math
use Rattle.rewriting.specs.Prelude.{Bindings, IsLeastMatch, HasNoMatch}
use Rattle.term_core.specs.declared.terms.NoMemory.{NoMemory}
use Rattle.matching.specs.declared.Match.{Match}
use Rattle.matching.specs.declared.Match.TheVariants.{Bound, Unmatched}

-- the least extension that makes the pattern equal the subject, or there is none
abbrev pub MatchAnswers : Bindings → math.Term → math.Term → Result Match NoMemory → Type 0
MatchAnswers start pattern subject (Ok (Bound found)) = IsLeastMatch start found pattern subject
MatchAnswers start pattern subject (Ok Unmatched) = HasNoMatch start pattern subject
MatchAnswers start pattern subject (Err e) = Unit {0}
