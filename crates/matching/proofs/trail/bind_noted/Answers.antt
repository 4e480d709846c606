use Rattle.std.proofs.Common.{ap, ◌∙◌}
use Rattle.std.specs.FinMap.{insert}
use Rattle.matching.proofs.Noted.{noted_one}
use Rattle.term_core.specs.View.{view}
use Rattle.matching.proofs.trail.bind_noted.Goals as goal

pub returns-clause-noted : goal.returns-clause-noted
returns-clause-noted c =
    noted_one c.args.values.now c.bind.new.self c.args.x (view c.args.subject.now) c.args.trail.now.items c.push.new.self.items c.requires
    (c.in_ok-bind.ensures.ok ∙ ap (insert c.args.values.now c.args.x) c.in_ok-try_clone.ensures) c.in_ok-push.ensures.items
