use Rattle.cops_syntax.specs.States.{word_view}
use Rattle.cops_syntax.proofs.Parsed.{follows_can, follows_take}
use Rattle.cops_syntax.proofs.files.BlocksWordReader.take.Goals as goal

pub step-requires : goal.step-requires
step-requires c = let (ws, h) = c.requires in follows_can ws c.args.self.now h

pub returns : goal.returns
returns c = follows_take c.args.self.now c.step.new.self (word_view c.args.word) c.step.result c.step.ensures
