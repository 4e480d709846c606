use Rattle.critical_pairs.proofs.Taken.{taken_there, kept_behind}
use Rattle.critical_pairs.proofs.kept.overlap_at.Goals as goal

pub returns-then-knows-clause-answer : goal.returns-then-knows-clause-answer
returns-then-knows-clause-answer c =
    λ later kept. taken_there c.args.sys.now c.args.triple.now.inner c.args.triple.now.pos.now c.args.triple.now.outer later c.args.kept.now c.take.new.self c.take.ensures.origins
    (c.knows.ensures.0 c.if-knows.true) kept c.take.result c.take.ensures.overlaps

pub returns-then-knows-clause-kept : goal.returns-then-knows-clause-kept
returns-then-knows-clause-kept c =
    λ later kept. kept_behind c.args.sys.now c.args.triple.now.inner c.args.triple.now.pos.now c.args.triple.now.outer later c.args.kept.now c.take.new.self c.take.ensures.origins
    (c.knows.ensures.0 c.if-knows.true) kept c.take.result c.take.ensures.overlaps
