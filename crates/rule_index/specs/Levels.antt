-- Where a walk stands: at each level the number of an argument, and those behind it.
use Rattle.std.specs.Prelude.{ℕ, suc, ◌≡◌, ◌+◌, ◌≤◌, List, [], ◌∷◌, ◌++◌, map, Option, None, Some}
use Rattle.std.specs.Borrow.{Bor}
use Rattle.rewriting.specs.declared.TheConstants.{MAX_NODES}
use Rattle.rewriting.specs.Prelude.{Term, Terms, var, app, nil, cons, size, size_all, Position}
use Rattle.term_core.specs.View.{view, views}
use Rattle.term_core.specs.declared.terms.Term as program
use Rattle.rule_index.specs.Parts.{Part, part}

-- the parts of a term that stands at a position, and those of its arguments from the k-th on
abbrev mutual
  pub parts_in : Position → Term → List Part
  parts_in p (var x) = part p (var x) ∷ []
  parts_in p (app f ts) = part p (app f ts) ∷ parts_among p 1 ts

  pub parts_among : Position → ℕ → Terms → List Part
  parts_among p k nil = []
  parts_among p k (cons t ts) = parts_in (p ++ k ∷ []) t ++ parts_among p (suc k) ts

-- the arguments of a term
abbrev pub arguments : Term → Terms
arguments (var x) = nil
arguments (app f ts) = ts

-- the parts of the arguments behind the numbers of a path that begins at a position, the deepest first
abbrev pub later_parts : Position → List ℕ → List Terms → List Part
later_parts p [] tss = []
later_parts p (n ∷ ns) [] = []
later_parts p (n ∷ ns) (ts ∷ tss) = later_parts (p ++ n ∷ []) ns tss ++ parts_among p (suc n) ts

-- each number has its arguments, and these are so few that they can be numbered
abbrev pub AreLevels : List ℕ → List Terms → Type 0
AreLevels [] [] = Unit {0}
AreLevels [] (ts ∷ tss) = ⊥
AreLevels (n ∷ ns) [] = ⊥
AreLevels (n ∷ ns) (ts ∷ tss) = (n + size_all ts ≤ MAX_NODES) × AreLevels ns tss

-- the arguments that references point to
abbrev pub levels_of : List (Bor (List program.Term)) → List Terms
levels_of later = map (λ args. views args.now) later

-- the arguments of a term, where there is one
abbrev pub AreArgumentsOf : Option (Bor program.Term) → List program.Term → Type 0
AreArgumentsOf None args = args ≡ []
AreArgumentsOf (Some t) args = views args ≡ arguments (view t.now)

-- an argument at a position, with whose parts the parts to come begin, or none where none is to come
abbrev pub Leads : List Part → Option (Bor program.Term) → Position → List Part → Type 0
Leads before None p after = (before ≡ []) × (after ≡ [])
Leads before (Some t) p after = (size (view t.now) ≤ MAX_NODES) × (before ≡ parts_in p (view t.now) ++ after)
