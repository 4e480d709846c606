use Rattle.std.proofs.Common.{sym}
use Rattle.term_core.specs.View.{view}
use Rattle.certificates.proofs.Growth.{subterm_fits}
use Rattle.derivation.proofs.steps.nodes_where.Goals as goal

pub size-requires : goal.size-requires
size-requires c = let e = c.in_ok-part.ensures in subterm_fits (view c.args.t.now) c.args.p.now (view c.in_ok-part.part.now) (sym e) c.requires
