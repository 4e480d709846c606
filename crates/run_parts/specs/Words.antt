-- The words of a command line.
use Rattle.std.specs.Prelude.{◌≡◌, ◌<◌, ◌^◌, List, ℕ, map, decimal}
use Rattle.std.specs.Borrow.{Bor}

abbrev pub texts : List (Bor (List ℕ)) → List (List ℕ)
texts words = map (λ w. w.now) words

-- the units of a search that is given no budget
abbrev pub usual_budget : ℕ
usual_budget = 1000000

-- the word is a budget: a number in decimal, without a sign and without zeros in front
abbrev pub IsBudget : List ℕ → ℕ → Type 0
IsBudget word n = (word ≡ decimal n) × (n < 2 ^ 63)
