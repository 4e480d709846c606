-- Values that can be taken back.
use Rattle.std.specs.Prelude.{ℕ, ◌≡◌, List, [], ◌∷◌, ◌++◌}
use Rattle.std.specs.FinMap.{remove}
use Rattle.rewriting.specs.Substitutions.{Bindings}

-- the bindings without the values of some variables
abbrev pub without : Bindings → List ℕ → Bindings
without b [] = b
without b (x ∷ xs) = remove (without b xs) x

-- the trail xs goes on to ys, with variables without whose values c is b
pub record IsNoted (b : Bindings) (xs : List ℕ) (c : Bindings) (ys : List ℕ) : Type 0 where
  pub fresh : List ℕ
  pub noted : ys ≡ xs ++ fresh
  pub back : without c fresh ≡ b
