-- What a search of the last space may answer.
use Rattle.std.specs.Prelude.{ℕ, ◌≡◌, ◌≤◌}
use Rattle.first_found.specs.Spaces.{Space, IsBarren, IsDearer, Ending, found, nothing, spent}

-- with so much left at the start, and so much paid; where the space holds nothing, no more is paid than it costs, whatever that is
abbrev pub MayEndLast : {C : Type 0} → Space C → ℕ → ℕ → Ending C → Type 0
MayEndLast S left paid (found c) = (n : ℕ) × S.Finds c n × (paid ≤ n)
MayEndLast S left paid nothing = IsBarren S × ((n : ℕ) → S.Costs n → paid ≤ n)
MayEndLast S left paid spent = (paid ≡ left) × IsDearer S left
