use Rattle.std.proofs.Common.{◌≡◌, ◌∷◌, ◌++◌, take, decimal}
use Rattle.std.specs.List.{flat_map}
use Rattle.concon_run.proofs.pieces.put_each.Given as goal

abbrev pub invariant-numbers : goal.invariant-numbers
invariant-numbers l = l.out.items ≡ l.fn.out.items ++ flat_map (λ n. l.byte ∷ decimal n) (take l.n-index l.numbers)
