-- Runs over the entries of a certificate, as they are seen in contracts.
use Rattle.rewriting.specs.Rules.{System}
use Rattle.valid_certificates.specs.Kinds.{Kind}
use Rattle.tallies.specs.Tally.{Tally}

-- a run over entries of a kind
pub record PairRun : Type 0 where
  pub kind : Kind
  pub system : System
  pub tally : Tally

-- a run for certificates of almost orthogonal systems
pub record OrthoRun : Type 0 where
  pub system : System
  pub tally : Tally

-- a run for certificates with a measure
pub record QuasiRun (M : Type 0) : Type 0 where
  pub system : System
  pub measure : M
  pub tally : Tally
