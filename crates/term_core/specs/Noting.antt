-- Variables that were noted, and what moving values leaves of a substitution.
use Rattle.std.specs.Prelude.{◌≡◌, ◌≤◌, ◌+◌, ◌⊎◌, ℕ, IsTrue}
use Rattle.std.specs.Ordering.{nat_cmp}
use Rattle.std.specs.BTreeSet.{BTreeSet, contains}
use Rattle.std.specs.FinMap.{get}
use Rattle.rewriting.specs.Prelude.{Term, Bindings, occurrences}
use Rattle.term_core.specs.Counting.{bit}

-- the set has the variable
abbrev pub Has : BTreeSet ℕ → ℕ → Type 0
Has s x = IsTrue (contains nat_cmp s x)

-- one where the set has it
abbrev pub among : BTreeSet ℕ → ℕ → ℕ
among s x = bit (contains nat_cmp s x)

-- where some variables are counted, s grows to t by them, and r to q by those counted twice or in s already
pub record AreNoted (count : ℕ → ℕ) (s t r q : BTreeSet ℕ) : Type 0 where
  pub seen : (x : ℕ) → 1 ≤ among s x + count x → 1 ≤ among t x
  pub kept : (x : ℕ) → among r x ≤ among q x
  pub twice : (x : ℕ) → 2 ≤ among s x + count x → 1 ≤ among q x

-- c has the values of b, but maybe not those of variables that occur in the term and are not repeated ones
abbrev pub Keeps : BTreeSet ℕ → Term → Bindings → Bindings → Type 0
Keeps repeated t b c = (x : ℕ) → (occurrences x t ≡ 0) ⊎ Has repeated x → get c x ≡ get b x
