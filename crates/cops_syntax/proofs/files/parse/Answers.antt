use Rattle.std.proofs.Common.{[], refl, sym, subst}
use Rattle.cops_syntax.specs.Reader.{at_start}
use Rattle.cops_syntax.specs.Answers.{Follow}
use Rattle.cops_syntax.proofs.files.parse.Goals as goal

pub read_words-requires : goal.read_words-requires
read_words-requires c κs = ((refl, tt), subst (Follow []) (sym c.new.ensures) at_start)
