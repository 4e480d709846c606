use Rattle.std.proofs.Common.{subst}
use Rattle.search_answers.specs.Given.{IsOverlapList}
use Rattle.shown_systems.proofs.whole.put_found.Goals as goal

pub put_overlaps-requires : goal.put_overlaps-requires
put_overlaps-requires c = record { overlaps = subst (IsOverlapList c.args.subject.now.prepared.now) c.in-Some.is c.requires.overlaps }
