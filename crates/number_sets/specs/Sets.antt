-- Sets of numbers as the bits of words.
use Rattle.std.specs.Prelude.{ℕ, zero, suc, ◌<◌, ◌*◌, ◌/◌, ◌%◌, Bool, nat_eq, List, [], ◌∷◌, ◌++◌, filter, length, get_or, Option, None, Some}
use Rattle.std.specs.Int.{bit_at}
use Rattle.rewriting.specs.Lists.{IsAmong}
use Rattle.number_sets.specs.declared.words.NumberSet.{NumberSet}

-- the numbers below n
abbrev pub below : ℕ → List ℕ
below zero = []
below (suc n) = below n ++ n ∷ []

-- each word has the bits of 64 numbers, the lowest first
abbrev pub is_set : List ℕ → ℕ → Bool
is_set words q = nat_eq (bit_at (get_or words (q / 64) 0) (q % 64)) 1

abbrev pub members_below : List ℕ → ℕ → List ℕ
members_below words n = filter (is_set words) (below n)

-- the numbers of the set, in order
abbrev pub members : NumberSet → List ℕ
members s = members_below s.words.items (64 * length s.words.items)

-- q is the least of some numbers that others lack
pub record IsLacking (numbers others : List ℕ) (q : ℕ) : Type 0 where
  pub inside : IsAmong q numbers
  pub lacking : IsAmong q others → ⊥
  pub earlier : (p : ℕ) → IsAmong p numbers → p < q → IsAmong p others

abbrev pub LackingAnswers : List ℕ → List ℕ → Option ℕ → Type 0
LackingAnswers numbers others None = (q : ℕ) → IsAmong q numbers → IsAmong q others
LackingAnswers numbers others (Some q) = IsLacking numbers others q
