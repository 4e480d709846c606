-- Counts that stop at the greatest 64-bit number.
use Rattle.std.specs.Prelude.{ℕ, ◌+◌, ◌≤◌, min}

abbrev pub top : ℕ
top = 18446744073709551615

-- a count is greater now, or stands at its end
abbrev pub Rose : ℕ → ℕ → Type 0
Rose before now = min (before + 1) top ≤ now

-- a count that n was added to
abbrev pub raised : ℕ → ℕ → ℕ
raised count n = min (count + n) top

-- a count grew by more than n, or stands at its end
abbrev pub GrewPast : ℕ → ℕ → ℕ → Type 0
GrewPast n before now = raised before (n + 1) ≤ now
