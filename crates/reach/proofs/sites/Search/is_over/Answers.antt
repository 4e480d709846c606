use Rattle.term_core.specs.View.{view}
use Rattle.reach.specs.Ready.{hyps_of}
use Rattle.reach.proofs.Quiet.{quiet_free, shallow_free}
use Rattle.reach.proofs.sites.Search.is_over.Goals as goal

pub returns-then-self-eq0-clause-free : goal.returns-then-self-eq0-clause-free
returns-then-self-eq0-clause-free c = λ _. shallow_free c.args.self.now.sys.now (hyps_of c.args.self.now) c.args.self.now.depth (view c.args.t.now) c.if-self-eq0.true

pub returns-clause-free : goal.returns-clause-free
returns-clause-free c = λ yes. quiet_free c.args.self.now.sys.now (hyps_of c.args.self.now) c.args.self.now.depth (view c.args.t.now) c.requires.ready.is_system (c.is_quiet.ensures yes)
