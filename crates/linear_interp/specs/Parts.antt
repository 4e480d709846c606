-- The constant and the coefficients of a term as one list: the constant first, then the coefficients of variables 0, 1, ..
use Rattle.std.specs.Prelude.{ℕ, zero, suc, ◌≡◌, ◌+◌, ◌*◌, ◌^◌, ◌<◌, ◌≤◌, List, length, slice_index, Bool, true, false, Option, None, Some, Vec}
use Rattle.std.specs.Global.{Global}
use Rattle.interpretations.specs.declared.TheConstants.{MOST_COEFFICIENT}
use Rattle.rewriting.specs.Terms.{Term, var, app, Terms, nil, cons, count}
use Rattle.interpretations.specs.Linear.{Interpretation, numbers_of, number_of, constant, constant_from, coefficient, coefficient_from}

-- part 0 of a term is its constant, part x + 1 the coefficient of x
abbrev pub part : Interpretation → ℕ → Term → ℕ
part es zero t = constant es t
part es (suc x) t = coefficient es x t

abbrev pub part_from : Interpretation → ℕ → ℕ → ℕ → Terms → ℕ
part_from es zero f k ts = constant_from es f k ts
part_from es (suc x) f k ts = coefficient_from es x f k ts

-- each symbol has one number more than arguments, all small enough; each variable has its place among n parts
abbrev mutual
  pub IsReady : Interpretation → ℕ → Term → Type 0
  IsReady es n (var x) = suc x < n
  IsReady es n (app f ts) = (f < length es) × (length (numbers_of es f) ≡ suc (count ts)) × ((k : ℕ) → number_of es f k ≤ MOST_COEFFICIENT) × AreReady es n ts

  pub AreReady : Interpretation → ℕ → Terms → Type 0
  AreReady es n nil = Unit {0}
  AreReady es n (cons t ts) = IsReady es n t × AreReady es n ts

-- no sum is above the limit
abbrev pub AreSmall : List ℕ → Type 0
AreSmall xs = (i : ℕ) → slice_index xs i ≤ 2 ^ 100

-- the sums grew by the parts times the factor, and are within the limit
pub record HasAdded (es : Interpretation) (n : ℕ) (t : Term) (old new : List ℕ) : Type 0 where
  pub as_many : length new ≡ length old
  pub sums : (i : ℕ) → i < length old → slice_index new i ≡ slice_index old i + n * part es i t
  pub small : AreSmall new

-- one of them would pass it
pub record GoesAbove (es : Interpretation) (n : ℕ) (t : Term) (old : List ℕ) : Type 0 where
  pub place : ℕ
  pub within : place < length old
  pub above : 2 ^ 100 < slice_index old place + n * part es place t

abbrev pub AddAnswers : Interpretation → ℕ → Term → List ℕ → List ℕ → Bool → Type 0
AddAnswers es n t old new true = HasAdded es n t old new
AddAnswers es n t old new false = GoesAbove es n t old

-- the same for each symbol that has these numbers
abbrev pub SymbolAnswers : Interpretation → ℕ → List ℕ → Terms → List ℕ → List ℕ → Bool → Type 0
SymbolAnswers es n numbers ts old new b = (f : ℕ) → numbers_of es f ≡ numbers → AddAnswers es n (app f ts) old new b

-- the first n parts of a term, within the limit
pub record ArePartsOf (es : Interpretation) (n : ℕ) (t : Term) (xs : List ℕ) : Type 0 where
  pub as_many : length xs ≡ n
  pub parts : (i : ℕ) → i < n → slice_index xs i ≡ part es i t
  pub small : AreSmall xs

abbrev pub SumsAnswers : Interpretation → ℕ → Term → Option (Vec ℕ Global) → Type 0
SumsAnswers es n t (Some v) = ArePartsOf es n t v.items
SumsAnswers es n t None = (i : ℕ) × (i < n) × (2 ^ 100 < part es i t)
