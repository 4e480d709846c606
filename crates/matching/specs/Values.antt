-- The part of a subject that stands where a pattern has a variable.
use Rattle.std.specs.Prelude.{◌≡◌, ℕ, nat_eq, if◌then◌else◌, Option, None, Some}
use Rattle.rewriting.specs.Terms.{Term, Terms, var, app, nil, cons}

abbrev pub first_some : Option Term → Option Term → Option Term
first_some None other = other
first_some (Some t) other = Some t

-- where both are read side by side, the subject's part at the first occurrence of the variable in the pattern
abbrev mutual
  pub value_at : ℕ → Term → Term → Option Term
  value_at x (var y) s = if nat_eq x y then Some s else None
  value_at x (app f ps) (var y) = None
  value_at x (app f ps) (app g ss) = value_among x ps ss

  pub value_among : ℕ → Terms → Terms → Option Term
  value_among x nil ss = None
  value_among x (cons p ps) nil = None
  value_among x (cons p ps) (cons s ss) = first_some (value_at x p s) (value_among x ps ss)

-- the pattern becomes the subject where each variable has this value
abbrev mutual
  pub Agrees : (ℕ → Option Term) → Term → Term → Type 0
  Agrees value (var x) s = value x ≡ Some s
  Agrees value (app f ps) (var y) = ⊥
  Agrees value (app f ps) (app g ss) = (f ≡ g) × AgreeAll value ps ss

  pub AgreeAll : (ℕ → Option Term) → Terms → Terms → Type 0
  AgreeAll value nil nil = Unit {0}
  AgreeAll value nil (cons s ss) = ⊥
  AgreeAll value (cons p ps) nil = ⊥
  AgreeAll value (cons p ps) (cons s ss) = Agrees value p s × AgreeAll value ps ss

-- the symbols of the pattern stand in the subject, whatever stands at its variables
abbrev mutual
  pub HasShape : Term → Term → Type 0
  HasShape (var x) s = Unit {0}
  HasShape (app f ps) (var y) = ⊥
  HasShape (app f ps) (app g ss) = (f ≡ g) × HaveShape ps ss

  pub HaveShape : Terms → Terms → Type 0
  HaveShape nil nil = Unit {0}
  HaveShape nil (cons s ss) = ⊥
  HaveShape (cons p ps) nil = ⊥
  HaveShape (cons p ps) (cons s ss) = HasShape p s × HaveShape ps ss
