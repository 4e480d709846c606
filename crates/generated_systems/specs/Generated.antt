-- The generated system number n: for each k from 1 to n the rules pk(z) -> true, pk(s(x)) -> false, fk(x) -> x | pk(x) == true and
-- fk(x) -> fj(x) | pk(x) == false with j = k - 1; for k = 1 the last one is f1(x) -> s(x) | p1(x) == false. Below k counts from 0.
use Rattle.std.specs.Prelude.{ℕ, zero, suc, ◌+◌, ◌-◌, ◌*◌, List, [], ◌∷◌, ◌++◌, flat_map, replicate, codes, decimal}
use Rattle.std.specs.List.{range_with_len}
use Rattle.rewriting.specs.Prelude.{Term, var, app, nil, cons, Rule, System, system_of}
use Rattle.cops_names.specs.NameTable.{NameTable}

-- the symbols by number, in the order in which the rules name them: p1, z, true, s, false, f1, p2, f2, p3, f3, ..
abbrev pub p_symbol : ℕ → ℕ
p_symbol zero = 0
p_symbol (suc k) = 6 + 2 * k

abbrev pub f_symbol : ℕ → ℕ
f_symbol k = 5 + 2 * k

abbrev pub z : Term
z = app 1 nil

abbrev pub true : Term
true = app 2 nil

abbrev pub s_of : Term → Term
s_of t = app 3 (cons t nil)

abbrev pub false : Term
false = app 4 nil

abbrev pub p_of : ℕ → Term → Term
p_of k t = app (p_symbol k) (cons t nil)

abbrev pub f_of : ℕ → Term → Term
f_of k t = app (f_symbol k) (cons t nil)

-- the one variable of a rule
abbrev pub x : Term
x = var 0

-- what fk goes on with
abbrev pub next_of : ℕ → Term
next_of zero = s_of x
next_of (suc k) = f_of k x

abbrev pub rules_for : ℕ → List Rule
rules_for k =
    record { left = p_of k z; right = true; conditions = [] } ∷ record { left = p_of k (s_of x); right = false; conditions = [] }
    ∷ record { left = f_of k x; right = x; conditions = record { left = p_of k x; right = true } ∷ [] }
    ∷ record { left = f_of k x; right = next_of k; conditions = record { left = p_of k x; right = false } ∷ [] } ∷ []

abbrev pub arities : ℕ → List ℕ
arities n = 1 ∷ 0 ∷ 0 ∷ 1 ∷ 0 ∷ 1 ∷ replicate (2 * (n - 1)) 1

abbrev pub generated : ℕ → System
generated n = system_of (arities n) (flat_map rules_for (range_with_len 0 n))

-- the names of pk and fk
abbrev pub p_name : ℕ → List ℕ
p_name k = codes "p" ++ decimal (suc k)

abbrev pub f_name : ℕ → List ℕ
f_name k = codes "f" ++ decimal (suc k)

abbrev pub symbols_for : ℕ → List (List ℕ × ℕ)
symbols_for k = (p_name k, 1) ∷ (f_name k, 1) ∷ []

-- the names of the variables of the four rules for k
abbrev pub variables_for : ℕ → List (List (List ℕ))
variables_for k = [] ∷ (codes "x" ∷ []) ∷ (codes "x" ∷ []) ∷ (codes "x" ∷ []) ∷ []

abbrev pub generated_names : ℕ → NameTable
generated_names n =
    record {
      symbols =
          (codes "p1", 1) ∷ (codes "z", 0) ∷ (codes "true", 0) ∷ (codes "s", 1) ∷ (codes "false", 0) ∷ (codes "f1", 1)
          ∷ flat_map symbols_for (range_with_len 1 (n - 1));
      variables = flat_map variables_for (range_with_len 0 n);
    }
