use Rattle.cops_syntax.proofs.Parsed.{follows_end}
use Rattle.cops_syntax.proofs.files.BlocksWordReader.end.Goals as goal

pub returns : goal.returns
returns c = follows_end c.args.self c.finish.result c.finish.ensures
