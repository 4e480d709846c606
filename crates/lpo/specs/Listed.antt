-- The rules in which symbols occur, as lists of their numbers.
use Rattle.std.specs.Prelude.{ℕ, ◌≡◌, ◌<◌, ◌⊎◌, Bool, true, false, List, slice_get, length, Some, Vec}
use Rattle.std.specs.Global.{Global}
use Rattle.rewriting.specs.Prelude.{IsAmong, Term, var, app, Terms, nil, cons}
use Rattle.rewriting.specs.Rules as math
use Rattle.unravel.specs.Listed.{listed}
use Rattle.lpo.specs.Rules.{is_dead_at}

-- symbol f occurs in the term
abbrev mutual
  pub HasSymbol : ℕ → Term → Type 0
  HasSymbol f (var x) = ⊥
  HasSymbol f (app g ts) = (f ≡ g) ⊎ HaveSymbol f ts

  pub HaveSymbol : ℕ → Terms → Type 0
  HaveSymbol f nil = ⊥
  HaveSymbol f (cons t ts) = HasSymbol f t ⊎ HaveSymbol f ts

-- symbol f occurs in a side of the rule
abbrev pub OccursAt : ℕ → math.Rule → Type 0
OccursAt f r = HasSymbol f r.left ⊎ HasSymbol f r.right

-- the number is put on the list of each symbol that has the property, and nothing else is changed
pub record IsNoted (number : ℕ) (Has : ℕ → Type 0) (before after : List (Vec ℕ Global)) : Type 0 where
  pub as_many : length after ≡ length before
  pub kept : (f n : ℕ) → IsAmong n (listed before f) → IsAmong n (listed after f)
  pub only : (f n : ℕ) → IsAmong n (listed after f) → IsAmong n (listed before f) ⊎ ((n ≡ number) × Has f)
  pub noted : (f : ℕ) → f < length before → Has f → IsAmong number (listed after f)

-- of the first k rules each symbol's list has the numbers, from 0, of those in which it occurs
pub record AreListed (rules : List math.Rule) (k : ℕ) (lists : List (Vec ℕ Global)) : Type 0 where
  pub only : (f n : ℕ) → IsAmong n (listed lists f) → (n < k) × ((r : math.Rule) × (slice_get rules n ≡ Some r) × OccursAt f r)
  pub all : (f n : ℕ) (r : math.Rule) → f < length lists → n < k → slice_get rules n ≡ Some r → OccursAt f r → IsAmong n (listed lists f)

-- some rule is dead, or none of those with these numbers is
abbrev pub ListedAnswers : List ℕ → List math.Rule → List ℕ → Bool → Type 0
ListedAnswers places rs numbers true = (n : ℕ) × (r : math.Rule) × (slice_get rs n ≡ Some r) × (is_dead_at places r ≡ true)
ListedAnswers places rs numbers false = (n : ℕ) (r : math.Rule) → IsAmong n numbers → slice_get rs n ≡ Some r → is_dead_at places r ≡ false
