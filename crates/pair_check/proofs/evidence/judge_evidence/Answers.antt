use Rattle.critical_pairs.specs.View.{overlap_view}
use Rattle.pair_check.proofs.Ready.{ready}
use Rattle.pair_check.proofs.evidence.judge_evidence.Goals as goal

pub judge_kind-requires-clause-ready : goal.judge_kind-requires-clause-ready
judge_kind-requires-clause-ready c = ready c.args.sys.now (overlap_view c.args.overlap.now) c.rules_are_sound.ensures c.requires.overlap
