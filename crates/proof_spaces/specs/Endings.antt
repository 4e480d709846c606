-- How a search of the spaces of a system and of those behind its standard steps may end.
use Rattle.std.specs.Prelude.{ℕ, ◌≡◌, ◌<◌}
use Rattle.rewriting.specs.Rules.{System}
use Rattle.certificates.specs.Certificates.{Certificate}
use Rattle.cops_names.specs.NameTable.{NameTable}
use Rattle.first_found.specs.Spaces.{IsDearer, Ending, found, nothing, spent, MayEnd}
use Rattle.quasi_space.specs.Measures.{pruned_measures}
use Rattle.proof_spaces.specs.Proofs.{proof_space, pruned_proof_space}
use Rattle.proof_spaces.specs.Prices.{IsWhole}

-- so much is too little: for the price, for the price where nothing behind dead prefixes is tried, and for the sum of all that is
-- searched so
pub record IsTooLittle (names : NameTable) (sys : System) (left : ℕ) : Type 0 where
  pub price : IsDearer (proof_space names sys) left
  pub pruned : IsDearer (pruned_proof_space names sys) left
  pub sum : (n : ℕ) → IsWhole pruned_measures names sys n → left < n

-- with so much left at the start, and so much paid
abbrev pub MayProofEnd : NameTable → System → ℕ → ℕ → Ending Certificate → Type 0
MayProofEnd names sys left paid (found c) = MayEnd (proof_space names sys) left paid (found c)
MayProofEnd names sys left paid nothing = MayEnd (proof_space names sys) left paid nothing
MayProofEnd names sys left paid spent = (paid ≡ left) × IsTooLittle names sys left
