-- What a search, or a part of one, answers that takes its units from a budget.
use Rattle.std.specs.Prelude.{ℕ, ◌≡◌, Result, Ok, Err}
use Rattle.cc_count.specs.Counts.{Counts, Spends}
use Rattle.cc_count.specs.declared.Sought.{Sought}
use Rattle.cc_count.specs.declared.Sought.TheVariants.{Found, Nothing, Spent}

-- the first good one, at the units up to and with it; that there is none, at those that show it; or that the budget ended, at fewer
abbrev pub Seeks : {T E : Type 0} → (T → ℕ → Type 0) → (ℕ → Type 0) → (ℕ → Type 0) → Counts → Counts → Result (Sought T) E → Type 0
Seeks IsFirst IsNone Stops before after (Ok (Found x)) = (n : ℕ) × Spends before n after × IsFirst x n
Seeks IsFirst IsNone Stops before after (Ok Nothing) = (n : ℕ) × Spends before n after × IsNone n
Seeks IsFirst IsNone Stops before after (Ok Spent) = (n : ℕ) × Spends before n after × (after.left ≡ 0) × Stops n
Seeks IsFirst IsNone Stops before after (Err e) = Unit {0}
