use Rattle.std.proofs.Common.{ap}
use Rattle.term_core.specs.View.{view}
use Rattle.rule_index.specs.Levels.{levels_of}
use Rattle.rule_index.proofs.Levels.{begins}
use Rattle.rule_index.proofs.parts.PartWalk.new.Goals as goal

pub returns : goal.returns
returns c = begins (view c.args.term.now) _ _ c.new.ensures.items (ap levels_of c.new-2.ensures.items)
