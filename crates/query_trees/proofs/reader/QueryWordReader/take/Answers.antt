use Rattle.cops_syntax.specs.States.{word_view}
use Rattle.query_trees.proofs.Parsed.{follows_can, follows_next, follows_refused}
use Rattle.query_trees.proofs.reader.QueryWordReader.take.Goals as goal

pub step-requires : goal.step-requires
step-requires c = let (ws, h) = c.requires in follows_can ws c.args.self.now h

pub returns-then-branch : goal.returns-then-branch
returns-then-branch c = follows_next c.args.self.now c.step.new.self (word_view c.args.word) c.in_ok-step.field-0 c.in_ok-step.ensures c.if-branch.true

pub returns-else-branch : goal.returns-else-branch
returns-else-branch c = follows_refused c.args.self.now c.step.new.self (word_view c.args.word) c.in_ok-step.field-0 c.in_ok-step.ensures c.if-branch.false
