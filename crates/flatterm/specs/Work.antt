-- How many splices were made.
use Rattle.std.specs.Prelude.{ℕ, ◌≤◌, ◌+◌, ◌-◌, ◌^◌, ◌⊎◌}

-- the number has risen by at least n, or it stands at the greatest u64
abbrev pub HasRisen : ℕ → ℕ → ℕ → Type 0
HasRisen before n after = (before + n ≤ after) ⊎ (2 ^ 64 - 1 ≤ after)
