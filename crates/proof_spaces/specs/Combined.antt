-- Spaces made from other spaces.
use Rattle.std.specs.Prelude.{ℕ, ◌≡◌, ◌+◌}
use Rattle.first_found.specs.Spaces.{Space}

-- nothing, for nothing
abbrev pub empty_space : {C : Type 0} → Space C
empty_space = record { Holds = λ c. ⊥; Finds = λ c n. ⊥; Costs = λ n. n ≡ 0 }

-- only what is found in the space, in another form, where that is in place; else nothing
abbrev pub only_found : {C D : Type 0} → (C → D) → (D → Type 0) → Space C → Space D
only_found {C} form InPlace S =
    record {
      Holds = λ d. (c : C) × (n : ℕ) × S.Finds c n × (d ≡ form c) × InPlace d;
      Finds = λ d n. (c : C) × S.Finds c n × (d ≡ form c) × InPlace d;
      Costs = S.Costs;
    }

-- the space of x, where x is come to at a cost that is paid first
abbrev pub space_of : {X D : Type 0} → (X → ℕ → Type 0) → (X → Space D) → Space D
space_of {X} Is S =
    record {
      Holds = λ d. (x : X) × (a : ℕ) × Is x a × (S x).Holds d;
      Finds = λ d n. (x : X) × (a : ℕ) × (b : ℕ) × Is x a × (S x).Finds d b × (n ≡ a + b);
      Costs = λ n. (x : X) × (a : ℕ) × (b : ℕ) × Is x a × (S x).Costs b × (n ≡ a + b);
    }
