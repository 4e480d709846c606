-- What is tried, in order, to settle an overlap of an almost orthogonal system.
use Rattle.std.specs.Prelude.{ℕ, ◌≡◌, ◌+◌, ◌-◌, List, ◌∷◌, ◌++◌, map, flat_map, length, None}
use Rattle.std.specs.List.{range_with_len}
use Rattle.rewriting.specs.Rules.{System}
use Rattle.unifier_run.specs.Overlaps.{Overlap}
use Rattle.certificates.specs.Evidence.{InfeasibilityEvidence, PairEvidence, trivial_pair, infeasible_pair, conflicting_pair}
use Rattle.valid_certificates.specs.Kinds.{Kind}
use Rattle.valid_certificates.specs.PairEvidence.{IsPairJudged}
use Rattle.search_spaces.specs.Refuting.{Refuting, Tries, try_caps, growths}

-- evidence, or evidence that the conditions are never met
pub data PairItem : Type 0 where
  try_evidence : PairEvidence → PairItem
  try_refuting : Refuting → PairItem

-- the evidence that the item tries
abbrev pub Offers : System → Overlap → PairItem → PairEvidence → Type 0
Offers sys o (try_evidence e) evidence = evidence ≡ e
Offers sys o (try_refuting r) evidence = (e : InfeasibilityEvidence) × Tries sys o.pair.conditions r e × (evidence ≡ infeasible_pair e)

-- the item gives evidence that is valid in a certificate of the kind
abbrev pub GivesEvidence : Kind → System → Overlap → PairItem → PairEvidence → Type 0
GivesEvidence kind sys o item evidence = Offers sys o item evidence × IsPairJudged kind sys o evidence None

-- condition a of the inner rule against each of n conditions of the outer
abbrev pub conflicts_with : ℕ → ℕ → List PairItem
conflicts_with n a = map (λ b. try_evidence (conflicting_pair a b)) (range_with_len 1 n)

-- each of m conditions of the inner rule against each of n of the outer, by the inner one, then the outer
abbrev pub conflicts : ℕ → ℕ → List PairItem
conflicts m n = flat_map (conflicts_with n) (range_with_len 1 m)

-- where the inner rule has m conditions, and the outer n
abbrev pub ortho_items_of : ℕ → ℕ → List PairItem
ortho_items_of m n = try_evidence trivial_pair ∷ try_refuting try_caps ∷ (conflicts m n ++ map try_refuting (growths (m + n)))

abbrev pub ortho_items : Overlap → List PairItem
ortho_items o = ortho_items_of o.inner_conditions (length o.pair.conditions - o.inner_conditions)
