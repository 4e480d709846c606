-- Trees that are walked in order: some inner nodes are dead, and each leaf gives something or nothing. The first result is
-- taken, at one unit for each leaf that is tried, and for each dead node that is met; nothing below a dead node is tried.
use Rattle.std.specs.Prelude.{ℕ, zero, suc, ◌≡◌, ◌+◌, ◌⊎◌, List, [], ◌∷◌, flat_map}
use Rattle.first_found.specs.Items.{GivesNothing}

-- the leaves below a node, where they stand so many steps below
abbrev pub leaves : {P : Type 0} → (P → List P) → ℕ → P → List P
leaves next zero p = p ∷ []
leaves next (suc d) p = flat_map (leaves next d) (next p)

-- each has a number, and n is the sum
abbrev pub HaveTogether : {P : Type 0} → (P → ℕ → Type 0) → List P → ℕ → Type 0
HaveTogether Has [] n = n ≡ 0
HaveTogether Has (p ∷ ps) n = (k : ℕ) × (m : ℕ) × Has p k × HaveTogether Has ps m × (n ≡ k + m)

-- one is at a number, those before it have numbers, and n is the sum
abbrev pub IsOneBehind : {P : Type 0} → (P → ℕ → Type 0) → (P → ℕ → Type 0) → List P → ℕ → Type 0
IsOneBehind Has Is [] n = ⊥
IsOneBehind Has Is (p ∷ ps) n = Is p n ⊎ ((k : ℕ) × (m : ℕ) × Has p k × IsOneBehind Has Is ps m × (n ≡ k + m))

-- nothing below the node gives anything, and n units show it
abbrev pub IsBarrenBelow : {P B : Type 0} → (P → List P) → (P → Type 0) → (P → B → Type 0) → ℕ → P → ℕ → Type 0
IsBarrenBelow next Dead Gives zero p n = GivesNothing Gives p × (n ≡ 1)
IsBarrenBelow next Dead Gives (suc d) p n = (Dead p × (n ≡ 1)) ⊎ ((Dead p → ⊥) × HaveTogether (IsBarrenBelow next Dead Gives d) (next p) n)

-- b is what the first leaf below the node gives that gives anything, after n units
abbrev pub IsFirstBelow : {P B : Type 0} → (P → List P) → (P → Type 0) → (P → B → Type 0) → B → ℕ → P → ℕ → Type 0
IsFirstBelow next Dead Gives b zero p n = Gives p b × (n ≡ 1)
IsFirstBelow next Dead Gives b (suc d) p n =
    (Dead p → ⊥) × IsOneBehind (IsBarrenBelow next Dead Gives d) (IsFirstBelow next Dead Gives b d) (next p) n

-- the units up to and with the first, or all units where there is none
abbrev pub IsWhole : {B : Type 0} → (B → ℕ → Type 0) → (ℕ → Type 0) → ℕ → Type 0
IsWhole {B} First Barren n = ((b : B) × First b n) ⊎ Barren n

-- the units of the whole are one number: there are not two, and not none
pub record EndsOnce (Whole : ℕ → Type 0) : Type 0 where
  pub one_at_most : (n m : ℕ) → Whole n → Whole m → n ≡ m
  pub not_none : ((n : ℕ) → Whole n → ⊥) → ⊥

-- a walk below the node stopped at a unit that could not be paid, before anything was given; n was paid
abbrev pub StopsBelow : {P B : Type 0} → (P → List P) → (P → Type 0) → (P → B → Type 0) → ℕ → P → ℕ → Type 0
StopsBelow next Dead Gives zero p n = n ≡ 0
StopsBelow next Dead Gives (suc d) p n =
    (Dead p × (n ≡ 0)) ⊎ ((Dead p → ⊥) × IsOneBehind (IsBarrenBelow next Dead Gives d) (StopsBelow next Dead Gives d) (next p) n)
