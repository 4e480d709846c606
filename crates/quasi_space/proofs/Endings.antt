-- The last space behind another.
use Rattle.std.proofs.Common.{ℕ, ◌≡◌, ◌+◌, ◌≤◌, arith}
use Rattle.first_found.specs.Spaces.{Space, followed_by, Ending, found, nothing, spent, MayEnd, CostsOnce}
use Rattle.first_found.proofs.Spaces.{barren_both, second_ends}
use Rattle.quasi_space.specs.Endings.{MayEndLast}

-- where there is nothing in the first, the search goes on in the last with what is left
module _ {C : Type 0} (S T : Space C) (once : CostsOnce S) (left paid : ℕ) (none : MayEnd S left paid nothing) (enough : paid ≤ left) where
  pub last_ends : (rest more : ℕ) (e : Ending C) → left ≡ paid + rest → MayEndLast T rest more e → MayEndLast (followed_by S T) left (paid + more) e
  last_ends rest more (found c) l h = second_ends S T once left paid none enough rest more (found c) l h
  last_ends rest more nothing l (b, most) = (
    barren_both S T none.0 b,
    λ n x. (let same = once none.1.0 x.0 none.1.1 x.2 in let first = none.1.2 in let second = most x.1 x.3 in let e = x.4 in omega (arith, same, first, second, e)),
  )
  last_ends rest more spent l h = second_ends S T once left paid none enough rest more spent l h
