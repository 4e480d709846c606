-- Without rules the only descents are moves to arguments, and sizes fall.
use Rattle.std.proofs.Common.{◌≡◌, inl, inr, ℕ, suc, zero, ◌<◌, [], length, Some, None, slice_get, ap, arith}
use Rattle.rewriting.specs.Prelude.{size, size_all, IsWellFormed, Descends, AreDescentsBounded, unraveled, unraveled_rules}
use Rattle.rewriting.proofs.Common.{Term, var, app, Terms, nil, cons, argument, argument_of, IsOver, Rule, System, rule_at}
use Rattle.rewriting.proofs.Unraveled.{measure_bounds}

argument_smaller : (ts : Terms) (k : ℕ) (u : Term) → argument ts k ≡ Some u → size u < suc (size_all ts)
argument_smaller nil k u e = absurd (cc)
argument_smaller (cons t ts) zero u e = absurd (cc)
argument_smaller (cons t ts) (suc zero) u e = (let same : size t ≡ size u = (let one : t ≡ u = cc in ap size one) in omega (arith, same))
argument_smaller (cons t ts) (suc (suc k)) u e = (let h = argument_smaller ts (suc k) u e in omega (arith, h))

move_smaller : (t : Term) (k : ℕ) (u : Term) → argument_of t k ≡ Some u → size u < size t
move_smaller (var x) k u e = absurd (cc)
move_smaller (app f ts) k u e = argument_smaller ts k u e

no_rule : (sys : System) → sys.rules ≡ [] → (i : ℕ) (r : Rule) → rule_at (unraveled sys) i ≡ Some r → ⊥
no_rule sys none zero r e = cc
no_rule sys none (suc i) r e = (let h : slice_get (unraveled_rules (length sys.arities) sys.rules) i ≡ None = ap (λ rs. slice_get (unraveled_rules (length sys.arities) rs) i) none in cc)

falls : (sys : System) → sys.rules ≡ [] → (u v : Term) → IsOver (unraveled sys).arities u → Descends sys u v → size v < size u
falls sys none u v over (inl s) = absurd (no_rule sys none s.number s.rule s.is_rule)
falls sys none u v over (inr m) = move_smaller u m.number v m.is_argument

pub no_rules_bound : (sys : System) → IsWellFormed sys → sys.rules ≡ [] → AreDescentsBounded sys
no_rules_bound sys well none = measure_bounds sys well size (falls sys none)
