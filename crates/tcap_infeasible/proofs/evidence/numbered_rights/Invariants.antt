use Rattle.tcap_infeasible.proofs.Sides.{Numbered}
use Rattle.tcap_infeasible.proofs.evidence.numbered_rights.Given as goal

abbrev pub invariant-loop-cond : goal.invariant-loop-cond
invariant-loop-cond l = Numbered l.conds l.cond-index l.numbering l.rights.items
