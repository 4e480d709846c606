use Rattle.std.proofs.Common.{subst}
use Rattle.search_answers.specs.Given.{IsOverlapList}
use Rattle.shown_systems.proofs.findings.find.Goals as goal

pub walk_overlaps-requires : goal.walk_overlaps-requires
walk_overlaps-requires c = record { overlaps = subst (IsOverlapList c.args.subject.now.prepared.now) c.in-Some.is c.requires.overlaps }

pub walk_overlaps-requires-in-Some : goal.walk_overlaps-requires-in-Some
walk_overlaps-requires-in-Some c = record { overlaps = subst (IsOverlapList c.args.subject.now.prepared.now) c.in-Some.is c.requires.overlaps }
