-- A peak of which the weaker statement is true: that some two terms which its start reaches have no common reduct.
use Rattle.rewriting.specs.Prelude.{Term, System, constant}
use Rattle.certificates.specs.Prelude.{no_steps, Peak, by_rigid_caps}
use Rattle.level_theorem.specs.Example.{forked}
use Rattle.valid_certificates.specs.Laws.{IsUnjoinable, ReachesApart}

-- nothing is said of the terms to which the derivations lead
abbrev pub ReachesSomeApart : System → Peak → Type 0
ReachesSomeApart sys peak = (u : Term) × (v : Term) × IsUnjoinable sys peak.start u v

-- the peak of a and a without a step
abbrev pub standing_still : Peak
standing_still = record { start = constant 0; first = no_steps; second = no_steps; apart = by_rigid_caps }

-- under a -> b, a -> c the start reaches b and c, and its derivations lead to one term
abbrev pub EndsMatter : Type 0
EndsMatter = ReachesSomeApart forked standing_still × (ReachesApart forked standing_still → ⊥)
