-- Laws of the spaces behind standard steps.
use Rattle.std.specs.Prelude.{ℕ, ◌↔◌}
use Rattle.rewriting.specs.Rules.{System}
use Rattle.certificates.specs.Certificates.{Certificate}
use Rattle.cops_names.specs.NameTable.{NameTable}
use Rattle.first_found.specs.Spaces.{IsPrice}
use Rattle.search_spaces.specs.Texts.{HasText}
use Rattle.search_spaces.specs.Laws.{IsSearchable}
use Rattle.quasi_space.specs.Measures.{each_measure, pruned_measures}
use Rattle.quasi_space.specs.AllSpaces.{all_spaces}
use Rattle.proof_spaces.specs.Proofs.{proof_space, pruned_proof_space}
use Rattle.proof_spaces.specs.Prices.{IsWhole, IsProofPrice}

-- the three spaces of a system have a whole cost
abbrev pub SpacesHaveACost : Type 0
SpacesHaveACost = (names : NameTable) (sys : System) → (n : ℕ) × (all_spaces names sys).Costs n

abbrev pub ProofSpacesAreSearchable : Type 0
ProofSpacesAreSearchable = (names : NameTable) (sys : System) → IsSearchable sys (proof_space names sys)

abbrev pub PrunedProofSpacesAreSearchable : Type 0
PrunedProofSpacesAreSearchable = (names : NameTable) (sys : System) → IsSearchable sys (pruned_proof_space names sys)

-- what is found can be written
abbrev pub ProofsHaveTexts : Type 0
ProofsHaveTexts = (names : NameTable) (sys : System) (c : Certificate) (n : ℕ) → (proof_space names sys).Finds c n → HasText names c

-- what is found where nothing behind dead prefixes is tried, is found where each measure is
abbrev pub PrunedProofsAreProofs : Type 0
PrunedProofsAreProofs =
    (names : NameTable) (sys : System) (c : Certificate) (n : ℕ) → (pruned_proof_space names sys).Finds c n → (m : ℕ) × (proof_space names sys).Finds c m

-- the price by its three cases, and the whole cost as a sum
abbrev pub PricesHaveThreeCases : Type 0
PricesHaveThreeCases = (names : NameTable) (sys : System) (n : ℕ) → IsPrice (proof_space names sys) n ↔ IsProofPrice each_measure names sys n

abbrev pub CostsAreSums : Type 0
CostsAreSums = (names : NameTable) (sys : System) (n : ℕ) → (proof_space names sys).Costs n ↔ IsWhole each_measure names sys n

abbrev pub PrunedCostsAreSums : Type 0
PrunedCostsAreSums = (names : NameTable) (sys : System) (n : ℕ) → (pruned_proof_space names sys).Costs n ↔ IsWhole pruned_measures names sys n
