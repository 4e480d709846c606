-- The rules of a system by the root symbol of their left sides.
use Rattle.std.specs.Prelude.{ℕ, Bool, false, nat_eq, List, []}
use Rattle.rewriting.specs.Prelude.{Term, var, app, Rule, System, numbers_where}

-- whether the symbol is the term's root
abbrev pub has_root : ℕ → Term → Bool
has_root f (var x) = false
has_root f (app g ts) = nat_eq f g

-- the numbers of the rules, counted from n, whose left side has the root f
abbrev pub numbers_with_root : ℕ → ℕ → List Rule → List ℕ
numbers_with_root f = numbers_where (λ r. has_root f r.left)

-- the numbers of the system's rules, from 1, whose left side has the root f, in order
abbrev pub rules_with_root : System → ℕ → List ℕ
rules_with_root sys f = numbers_with_root f 1 sys.rules

-- those whose left side has the root of a term
abbrev pub rules_at : System → Term → List ℕ
rules_at sys (var x) = []
rules_at sys (app f ts) = rules_with_root sys f
