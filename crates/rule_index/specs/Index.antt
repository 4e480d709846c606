-- An index of rules by root symbols, as a list for each symbol.
use Rattle.std.specs.Prelude.{ℕ, ◌≡◌, ◌<◌, List, [], ◌∷◌, get_or}
use Rattle.rewriting.specs.Prelude.{Term, var, app, Rule, System}
use Rattle.rule_index.specs.Roots.{rules_with_root}

-- the numbers that stand at a symbol; past the last symbol there are none
abbrev pub listed : List (List ℕ) → ℕ → List ℕ
listed index f = get_or index f []

-- those that stand at the root of a term
abbrev pub listed_at : List (List ℕ) → Term → List ℕ
listed_at index (var x) = []
listed_at index (app f ts) = listed index f

-- at each symbol stand the numbers of the system's rules with that root, in order
abbrev pub IsIndexOf : System → List (List ℕ) → Type 0
IsIndexOf sys index = (f : ℕ) → listed index f ≡ rules_with_root sys f

-- the root of the term is one of the first n symbols, where it is no variable
abbrev pub IsRootBelow : ℕ → Term → Type 0
IsRootBelow n (var x) = Unit {0}
IsRootBelow n (app f ts) = f < n

-- so are the roots of the left sides
abbrev pub AreRootsBelow : ℕ → List Rule → Type 0
AreRootsBelow n [] = Unit {0}
AreRootsBelow n (r ∷ rs) = IsRootBelow n r.left × AreRootsBelow n rs
