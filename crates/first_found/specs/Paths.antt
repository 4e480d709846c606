-- How far a walk through a tree has come.
use Rattle.std.specs.Prelude.{ℕ, zero, suc, ◌≡◌, ◌+◌, List, ◌∷◌, ◌++◌}
use Rattle.first_found.specs.Trees.{HaveTogether, IsBarrenBelow}

-- the walk is at a child of a node that it came to, and paid n: those for the node, and those that show the children before to be barren
pub record IsAtChild {P : Type 0} (next : P → List P) (Dead : P → Type 0) (Barren CameTo : P → ℕ → Type 0) (p : P) (n : ℕ) : Type 0 where
  pub parent : P
  pub alive : Dead parent → ⊥
  pub before : List P
  pub behind : List P
  pub split : next parent ≡ before ++ p ∷ behind
  pub paid_above : ℕ
  pub paid_before : ℕ
  pub came_to : CameTo parent paid_above
  pub barren : HaveTogether Barren before paid_before
  pub paid : n ≡ paid_above + paid_before

-- a walk from a root, which is so many steps above the leaves, came to a node k steps below it, which is d steps above the leaves;
-- it tried nothing below the node, and paid n
abbrev pub HasWalked : {P B : Type 0} → (P → List P) → (P → Type 0) → (P → B → Type 0) → ℕ → P → ℕ → ℕ → P → ℕ → Type 0
HasWalked next Dead Gives top root zero d p n = (d ≡ top) × (p ≡ root) × (n ≡ 0)
HasWalked next Dead Gives top root (suc k) d p n = IsAtChild next Dead (IsBarrenBelow next Dead Gives d) (HasWalked next Dead Gives top root k (suc d)) p n
