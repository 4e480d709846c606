-- Spaces that are searched in order, and what a search of one within a budget may answer.
use Rattle.std.specs.Prelude.{ℕ, ◌≡◌, ◌+◌, ◌<◌, ◌≤◌, ◌⊎◌}

-- what the space holds; what is the first good one in it, with the cost up to and with that; the cost of the whole space
pub record Space (C : Type 0) : Type 1 where
  pub Holds : C → Type 0
  pub Finds : C → ℕ → Type 0
  pub Costs : ℕ → Type 0

-- nothing in the space is good
abbrev pub IsBarren : {C : Type 0} → Space C → Type 0
IsBarren {C} S = (c : C) (n : ℕ) → S.Finds c n → ⊥

-- what has to be paid: up to the first good one, or for the whole where there is none
abbrev pub IsPrice : {C : Type 0} → Space C → ℕ → Type 0
IsPrice {C} S n = ((c : C) × S.Finds c n) ⊎ (IsBarren S × S.Costs n)

-- more has to be paid than there is
abbrev pub IsDearer : {C : Type 0} → Space C → ℕ → Type 0
IsDearer S left = (n : ℕ) → IsPrice S n → left < n

-- one space behind another
abbrev pub followed_by : {C : Type 0} → Space C → Space C → Space C
followed_by S T =
    record {
      Holds = λ c. S.Holds c ⊎ T.Holds c;
      Finds = λ c n. S.Finds c n ⊎ (IsBarren S × ((a : ℕ) × (b : ℕ) × S.Costs a × T.Finds c b × (n ≡ a + b)));
      Costs = λ n. (a : ℕ) × (b : ℕ) × S.Costs a × T.Costs b × (n ≡ a + b);
    }

-- what a search ends with: something good, nothing, or the end of the budget
pub data Ending (C : Type 0) : Type 0 where
  found : C → Ending C
  nothing : Ending C
  spent : Ending C

-- with so much left at the start, and so much paid, a search of the space may end so
abbrev pub MayEnd : {C : Type 0} → Space C → ℕ → ℕ → Ending C → Type 0
MayEnd S left paid (found c) = (n : ℕ) × S.Finds c n × (paid ≤ n)
MayEnd S left paid nothing = IsBarren S × ((n : ℕ) × S.Costs n × (paid ≤ n))
MayEnd S left paid spent = (paid ≡ left) × IsDearer S left

-- the same of a search that pays exactly what it has to for what it finds
abbrev pub MayEndExactly : {C : Type 0} → Space C → ℕ → ℕ → Ending C → Type 0
MayEndExactly S left paid (found c) = S.Finds c paid
MayEndExactly S left paid nothing = IsBarren S × ((n : ℕ) × S.Costs n × (paid ≤ n))
MayEndExactly S left paid spent = (paid ≡ left) × IsDearer S left

-- the space costs one number at most
abbrev pub CostsOnce : {C : Type 0} → Space C → Type 0
CostsOnce S = (a b : ℕ) → S.Costs a → S.Costs b → a ≡ b

-- what is found is held and good, and where nothing is found, nothing that is held is good
pub record IsSearched {C : Type 0} (Good : C → Type 0) (S : Space C) : Type 0 where
  pub held : (c : C) (n : ℕ) → S.Finds c n → S.Holds c × Good c
  pub barren : IsBarren S → (c : C) → S.Holds c → Good c → ⊥

-- it cannot be that the space has no cost
abbrev pub HasCost : {C : Type 0} → Space C → Type 0
HasCost S = ((n : ℕ) → S.Costs n → ⊥) → ⊥

-- at most one thing is found, at one price
abbrev pub FindsOnce : {C : Type 0} → Space C → Type 0
FindsOnce {C} S = (c d : C) (n m : ℕ) → S.Finds c n → S.Finds d m → (n ≡ m) × (c ≡ d)

-- there is one price, as far as can be said of what cannot be decided: there are not two, and not none
pub record HasPrice {C : Type 0} (S : Space C) : Type 0 where
  pub one_at_most : (n m : ℕ) → IsPrice S n → IsPrice S m → n ≡ m
  pub not_none : ((n : ℕ) → IsPrice S n → ⊥) → ⊥
