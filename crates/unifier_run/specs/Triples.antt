-- All triples of a system in order: by the outer rule, the positions of its left side that are no variables, and the inner rule.
use Rattle.std.specs.Prelude.{ℕ, zero, suc, List, [], ◌∷◌, ◌++◌, length}
use Rattle.rewriting.specs.Prelude.{Term, Terms, var, app, nil, cons, Position, Rule, System, IsPlace}
use Rattle.unifier_run.specs.Run.{clash}
use Rattle.unifier_run.specs.Overlaps.{Triple, IsOutcomeOf}

-- the triples of the inner rules from i + 1 on, n of them
abbrev pub triples_at : ℕ → Position → ℕ → ℕ → List Triple
triples_at j p i zero = []
triples_at j p i (suc n) = (suc i, (p, j)) ∷ triples_at j p (suc i) n

-- at the root only the inner rules before the outer one count
abbrev pub counted : ℕ → ℕ → Position → ℕ
counted j n [] = j
counted j n (k ∷ p) = n

-- below the position p, where t stands; number j + 1 of n rules is the outer one
abbrev mutual
  pub triples_below : ℕ → ℕ → Position → Term → List Triple
  triples_below j n p (var x) = []
  triples_below j n p (app f ts) = triples_at (suc j) p 0 (counted j n p) ++ triples_beside j n p 1 ts

  pub triples_beside : ℕ → ℕ → Position → ℕ → Terms → List Triple
  triples_beside j n p k nil = []
  triples_beside j n p k (cons t ts) = triples_below j n (p ++ k ∷ []) t ++ triples_beside j n p (suc k) ts

-- for the outer rules from j + 1 on
abbrev pub triples_from : ℕ → ℕ → List Rule → List Triple
triples_from n j [] = []
triples_from n j (r ∷ rs) = triples_below j n [] r.left ++ triples_from n (suc j) rs

abbrev pub all_triples : System → List Triple
all_triples sys = triples_from (length sys.rules) 0 sys.rules

-- a clash at the triple, where it is a place
abbrev pub DoesClash : System → Triple → Type 0
DoesClash sys (i, (p, j)) = (inner outer : Rule) (part : Term) → IsPlace sys i p j inner outer part → IsOutcomeOf inner.left part clash
