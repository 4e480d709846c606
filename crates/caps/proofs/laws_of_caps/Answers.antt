use Rattle.caps.proofs.Reducts.{reducts_match, never_met}
use Rattle.caps.proofs.Rigid.{rigid_reducts, rigid_apart, caps_apart}
use Rattle.caps.proofs.laws_of_caps.Goals as goal

pub returns-clause-reducts : goal.returns-clause-reducts
returns-clause-reducts c = reducts_match

pub returns-clause-rigid : goal.returns-clause-rigid
returns-clause-rigid c = rigid_reducts

pub returns-clause-refute : goal.returns-clause-refute
returns-clause-refute c = never_met

pub returns-clause-apart : goal.returns-clause-apart
returns-clause-apart c = caps_apart

pub returns-clause-rigid_apart : goal.returns-clause-rigid_apart
returns-clause-rigid_apart c = rigid_apart
