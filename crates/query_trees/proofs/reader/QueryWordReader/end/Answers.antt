use Rattle.query_trees.proofs.Parsed.{follows_query, follows_early}
use Rattle.query_trees.proofs.reader.QueryWordReader.end.Goals as goal

pub returns-in-Some : goal.returns-in-Some
returns-in-Some c = follows_query c.args.self c.finish.result c.in-Some.tree c.finish.ensures c.in-Some.is

pub returns-in-None : goal.returns-in-None
returns-in-None c = follows_early c.args.self c.finish.result c.finish.ensures c.in-None.is
