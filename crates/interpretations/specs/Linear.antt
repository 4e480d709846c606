-- Linear interpretations over the natural numbers (Baader and Nipkow, Term Rewriting and All That, chapter 5).
use Rattle.std.specs.Prelude.{ℕ, suc, ◌≡◌, ◌+◌, ◌*◌, ◌^◌, ◌<◌, ◌≤◌, ◌⊎◌, List, [], nat_eq, if◌then◌else◌, Some, slice_get, option_map, unwrap_or, length}
use Rattle.interpretations.specs.declared.TheConstants.{MOST_COEFFICIENT}
use Rattle.rewriting.specs.Prelude.{Term, var, app, Terms, nil, cons, Position, subterm, Rule, System, EachRule, unraveled, heads, IsActive}
use Rattle.certificates.specs.Certificates.{LinearEntry}

-- an interpretation has an entry for each symbol of the unraveled system
abbrev pub Interpretation : Type 0
Interpretation = List LinearEntry

-- the numbers c0, c1, .., cn of a symbol, whose meaning is c0 + c1 x1 + .. + cn xn
abbrev pub numbers_of : Interpretation → ℕ → List ℕ
numbers_of es f = unwrap_or (option_map (λ e. e.coefficients) (slice_get es f)) []

-- the one with a number, from 0
abbrev pub number_of : Interpretation → ℕ → ℕ → ℕ
number_of es f k = unwrap_or (slice_get (numbers_of es f) k) 0

-- the meaning of a term is linear in its variables: its constant
abbrev mutual
  pub constant : Interpretation → Term → ℕ
  constant es (var x) = 0
  constant es (app f ts) = number_of es f 0 + constant_from es f 1 ts

  pub constant_from : Interpretation → ℕ → ℕ → Terms → ℕ
  constant_from es f k nil = 0
  constant_from es f k (cons t ts) = number_of es f k * constant es t + constant_from es f (suc k) ts

-- and the coefficient of a variable
abbrev mutual
  pub coefficient : Interpretation → ℕ → Term → ℕ
  coefficient es x (var y) = if nat_eq x y then 1 else 0
  coefficient es x (app f ts) = coefficient_from es x f 1 ts

  pub coefficient_from : Interpretation → ℕ → ℕ → ℕ → Terms → ℕ
  coefficient_from es x f k nil = 0
  coefficient_from es x f k (cons t ts) = number_of es f k * coefficient es x t + coefficient_from es x f (suc k) ts

-- entry k, from 0, is that of symbol k, with one number more than the symbol has arguments
pub record IsEntry (sys : System) (es : Interpretation) (k : ℕ) : Type 0 where
  pub entry : LinearEntry
  pub is_entry : slice_get es k ≡ Some entry
  pub head : slice_get (heads sys) k ≡ Some entry.head
  pub numbers : option_map suc (slice_get (unraveled sys).arities k) ≡ Some (length entry.coefficients)

-- there is exactly one entry for each symbol, in order
pub record HasShape (sys : System) (es : Interpretation) : Type 0 where
  pub as_many : length es ≡ length (heads sys)
  pub entries : (k : ℕ) → k < length es → IsEntry sys es k

-- the numbers of symbol f are at most 1,000,000; those of active arguments are at least 1, and so is the constant where there are arguments
pub record AreNumbersGood (sys : System) (f : ℕ) (cs : List ℕ) : Type 0 where
  pub small : (k c : ℕ) → slice_get cs k ≡ Some c → c ≤ MOST_COEFFICIENT
  pub active : (k c : ℕ) → slice_get cs (suc k) ≡ Some c → IsActive sys f (suc k) → 1 ≤ c
  pub constant : (c : ℕ) → slice_get cs 0 ≡ Some c → 2 ≤ length cs → 1 ≤ c

-- the numbers of each symbol are good
abbrev pub AreAllNumbersGood : System → Interpretation → Type 0
AreAllNumbersGood sys es = (k : ℕ) (e : LinearEntry) → slice_get es k ≡ Some e → AreNumbersGood sys k e.coefficients

-- the constant or a coefficient of the term is above 2^100
abbrev pub IsLarge : Interpretation → Term → Type 0
IsLarge es t = (2 ^ 100 < constant es t) ⊎ ((x : ℕ) × (2 ^ 100 < coefficient es x t))

-- that of a subterm is
abbrev pub HasLargePart : Interpretation → Term → Type 0
HasLargePart es t = (p : Position) × (u : Term) × (subterm t p ≡ Some u) × IsLarge es u

abbrev pub Overflows : Interpretation → Rule → Type 0
Overflows es r = HasLargePart es r.left ⊎ HasLargePart es r.right

-- no variable's coefficient is greater on the right
abbrev pub AreCoefficientsKept : Interpretation → Rule → Type 0
AreCoefficientsKept es r = (x : ℕ) → coefficient es x r.right ≤ coefficient es x r.left

-- the value falls from the left side to the right, whatever the variables, within the bound
pub record Falls (es : Interpretation) (r : Rule) : Type 0 where
  pub bounded : Overflows es r → ⊥
  pub coefficients : AreCoefficientsKept es r
  pub constants : constant es r.right < constant es r.left

-- a good interpretation
pub record IsGood (sys : System) (es : Interpretation) : Type 0 where
  pub shape : HasShape sys es
  pub numbers : AreAllNumbersGood sys es
  pub rules : EachRule (unraveled sys) (Falls es)
