-- Searches for the overlaps of a system that has a list of them.
use Rattle.std.specs.Prelude.{◌≤◌, ◌+◌, List, length}
use Rattle.unifier_run.specs.declared.TheConstants.{MOST_OVERLAPS}
use Rattle.rewriting.specs.Rules.{System}
use Rattle.unifier_run.specs.Overlaps.{Overlap}
use Rattle.unifier_run.specs.Triples.{all_triples}
use Rattle.unifier_run.proofs.Triples.{AreThose}
use Rattle.critical_pairs.specs.Offers.{Search}
use Rattle.critical_pairs.proofs.Whole.{Gathered}

-- a pass through all triples came to these overlaps
pub record AreAll (sys : System) (os : List Overlap) : Type 0 where
  pub those : AreThose sys (all_triples sys) os
  pub few : length os ≤ MOST_OVERLAPS

-- a search has offered some overlaps, and the others are at the triples that are still to come
pub record IsUnderway (sys : System) (s : Search) (offered later : List Overlap) : Type 0 where
  pub gathered : Gathered sys s offered
  pub ahead : AreThose sys s.rest later
  pub few : length offered + length later ≤ MOST_OVERLAPS
