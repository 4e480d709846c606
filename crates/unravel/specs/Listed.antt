-- Lists of the numbers of rules, for each of some places.
use Rattle.std.specs.Prelude.{ℕ, List, [], map, get_or, Vec}
use Rattle.std.specs.Global.{Global}

-- the numbers in the list at a place; past the last list there are none
abbrev pub listed : List (Vec ℕ Global) → ℕ → List ℕ
listed lists k = get_or (map (λ v. v.items) lists) k []
