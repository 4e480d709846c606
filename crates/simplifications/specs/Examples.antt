-- Small systems, and what the definitions say of them. In each, f is 0, g is 1, h is 2, a is 3 and c, with two arguments, is 4.
use Rattle.std.specs.Prelude.{ℕ, List, [], ◌∷◌}
use Rattle.rewriting.specs.Prelude.{Term, var, app, nil, cons, Signature, Condition, System, system_of}
use Rattle.certificates.specs.Prelude.{inlined, not_inline}
use Rattle.simplifications.specs.Simplifying.{Simplifies, IsRefused}

abbrev symbols : Signature
symbols = 1 ∷ 1 ∷ 1 ∷ 0 ∷ 2 ∷ []

abbrev on : ℕ → Term → Term
on f t = app f (cons t nil)

abbrev two : Term → Term → Term
two s t = app 4 (cons s (cons t nil))

-- f(0) -> right | conditions
abbrev with_rule : Term → List Condition → System
with_rule right cs = system_of symbols ((record { left = on 0 (var 0); right = right; conditions = cs }) ∷ [])

-- f(x) -> y | g(x) == y becomes f(x) -> g(x)
abbrev pub InlinesACall : Type 0
InlinesACall =
    Simplifies (with_rule (var 1) ((record { left = on 1 (var 0); right = var 1 }) ∷ [])) (inlined 1 1) (with_rule (on 1 (var 0)) [])

-- in f(x) -> x | g(x) == x the name is known
abbrev pub KeepsAKnownName : Type 0
KeepsAKnownName = IsRefused (with_rule (var 0) ((record { left = on 1 (var 0); right = var 0 }) ∷ [])) (inlined 1 1) not_inline

-- f(x) -> c(y, z) | g(x) == y, h(y) == z becomes f(x) -> c(g(x), z) | h(g(x)) == z, where z has the number that y had
abbrev pub NumbersAnew : Type 0
NumbersAnew =
    Simplifies (with_rule (two (var 1) (var 2)) ((record { left = on 1 (var 0); right = var 1 }) ∷ (record { left = on 2 (var 1); right = var 2 }) ∷ [])) (inlined 1 1)
    (with_rule (two (on 1 (var 0)) (var 1)) ((record { left = on 2 (on 1 (var 0)); right = var 1 }) ∷ []))

-- in f(x) -> a | g(x) == y, h(x) == y the second condition asks for the value of y
abbrev pub KeepsALaterQuestion : Type 0
KeepsALaterQuestion =
    IsRefused (with_rule (app 3 nil) ((record { left = on 1 (var 0); right = var 1 }) ∷ (record { left = on 2 (var 0); right = var 1 }) ∷ [])) (inlined 1 1) not_inline
