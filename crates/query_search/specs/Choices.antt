-- Values for variables, each told by the number of its choice.
use Rattle.std.specs.Prelude.{ℕ, suc, ◌≡◌, List, [], ◌∷◌, ◌++◌, Bool, true, false, get_or, drop, flat_map, map}
use Rattle.std.specs.FinMap.{empty, insert}
use Rattle.rewriting.specs.Prelude.{Term, var, app, nil, Bindings}

-- the constants with these numbers
abbrev pub constants_of : List ℕ → List Term
constants_of fs = map (λ f. app f nil) fs

-- each number is 0
abbrev pub AreZeros : List ℕ → Type 0
AreZeros [] = Unit {0}
AreZeros (n ∷ ns) = (n ≡ 0) × AreZeros ns

-- Each variable has itself, or one of some terms.
module _ (ts : List Term) where
  -- the choice with a number: 0 for the variable itself
  abbrev pub choice : ℕ → ℕ → Term
  choice x n = get_or (var x ∷ ts) n (var x)

  -- the choices with these numbers, put to other values
  abbrev pub chosen : Bindings → List ℕ → List ℕ → Bindings
  chosen b [] ns = b
  chosen b (x ∷ xs) [] = b
  chosen b (x ∷ xs) (n ∷ ns) = chosen (insert b x (choice x n)) xs ns

  -- all choices, put to other values, in lexicographic order
  abbrev pub all_chosen : Bindings → List ℕ → List Bindings
  all_chosen b [] = b ∷ []
  all_chosen b (x ∷ xs) = flat_map (λ t. all_chosen (insert b x t) xs) (var x ∷ ts)

  -- those from the choices with these numbers on
  abbrev pub chosen_from : Bindings → List ℕ → List ℕ → List Bindings
  chosen_from b [] ns = b ∷ []
  chosen_from b (x ∷ xs) [] = b ∷ []
  chosen_from b (x ∷ xs) (n ∷ ns) = chosen_from (insert b x (choice x n)) xs ns ++ flat_map (λ t. all_chosen (insert b x t) xs) (drop (suc n) (var x ∷ ts))

  -- the new numbers are those of the next choices, or the old ones were the last
  abbrev pub TurnAnswers : List ℕ → List ℕ → List ℕ → Bool → Type 0
  TurnAnswers xs old new true = chosen_from empty xs old ≡ chosen empty xs old ∷ chosen_from empty xs new
  TurnAnswers xs old new false = chosen_from empty xs old ≡ chosen empty xs old ∷ []
