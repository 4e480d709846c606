-- Certificates of confluence and of its failure.
use Rattle.std.specs.Prelude.{ℕ, List}
use Rattle.rewriting.specs.Prelude.{Term, Position, Head}
use Rattle.certificates.specs.Derivations.{Derivation}
use Rattle.certificates.specs.Evidence.{InfeasibilityEvidence, PairEvidence}

-- evidence for the overlap of the inner rule, at a position, with the outer rule
pub record PairEntry : Type 0 where
  pub inner : ℕ
  pub position : Position
  pub outer : ℕ
  pub evidence : PairEvidence

-- the constant and the coefficients of a symbol of the unraveled system
pub record LinearEntry : Type 0 where
  pub head : Head
  pub coefficients : List ℕ

-- a measure of terms over the unraveled system
pub data MeasureCertificate : Type 0 where
  linear_measure : List LinearEntry → MeasureCertificate
  -- all symbols of the unraveled system, the greatest first
  precedence_measure : List Head → MeasureCertificate

-- evidence that a rule does not apply at a position of one of two terms, the first or the second
pub record Redex : Type 0 where
  pub which : ℕ
  pub position : Position
  pub rule : ℕ
  pub evidence : InfeasibilityEvidence

-- two terms have no common reduct: neither has a step, by evidence for each redex, or their caps do not unify
pub data Apartness : Type 0 where
  by_normal_forms : List Redex → Apartness
  by_rigid_caps : Apartness

-- two derivations from one term to terms without a common reduct
pub record Peak : Type 0 where
  pub start : Term
  pub first : Derivation
  pub second : Derivation
  pub apart : Apartness

-- a step that simplifies a system: a rule whose conditions are never met is dropped; a condition that only names a term
-- goes, and the term is put for the name. Rules and conditions are numbered from 1
pub data Simplification : Type 0 where
  dropped : ℕ → InfeasibilityEvidence → Simplification
  inlined : ℕ → ℕ → Simplification

pub data Certificate : Type 0 where
  ortho_certificate : List PairEntry → Certificate
  quasi_certificate : MeasureCertificate → List PairEntry → Certificate
  peak_certificate : Peak → Certificate
  -- a certificate for the system that these steps leave
  simplified_certificate : List Simplification → Certificate → Certificate
