-- The runs of the rules of a generated system: where the roots differ they clash, and so do pk(z) and pk(s(x)); fk's rules unify.
use Rattle.std.proofs.Common.{ℕ, ◌≡◌, ◌≢◌, inl, List, [], ◌∷◌, refl, subst, arith}
use Rattle.rewriting.specs.Prelude.{Terms, var, app, nil, cons, Fits, apply_all, odd, Rule}
use Rattle.unifier_run.specs.Run.{Binding, unifier, clash, binding, roots_differ, arguments, no_equation, last_equation, next_equation}
use Rattle.unifier_run.specs.Overlaps.{IsOutcomeOf}
use Rattle.unifier_run.proofs.Heads.{heads_clash}
use Rattle.generated_systems.specs.Generated.{p_symbol, f_symbol, z, s_of, p_of, f_of, x}
use Rattle.generated_systems.proofs.Rules.{IsRuleFor, is_zero, is_successor, is_end, is_next}

-- a constant, a symbol over a constant or a variable, and one more symbol over that fit
pub fits_constant : (f : ℕ) → Fits (app f nil)
fits_constant f = record { nodes = omega arith; levels = omega arith }

pub fits_over_variable : (f v : ℕ) → Fits (app f (cons (var v) nil))
fits_over_variable f v = record { nodes = omega arith; levels = omega arith }

pub fits_over_constant : (f g : ℕ) → Fits (app f (cons (app g nil) nil))
fits_over_constant f g = record { nodes = omega arith; levels = omega arith }

pub fits_twice_over : (f g v : ℕ) → Fits (app f (cons (app g (cons (var v) nil)) nil))
fits_twice_over f g v = record { nodes = omega arith; levels = omega arith }

pub fits_variable : (v : ℕ) → Fits (var v)
fits_variable v = record { nodes = omega arith; levels = omega arith }

-- a term with a root that is neither pk nor fk
pub other_root : (k i : ℕ) (r : Rule) (f : ℕ) (ts : Terms) → IsRuleFor k i r → p_symbol k ≢ f → f_symbol k ≢ f → Fits (app f (apply_all odd ts)) → IsOutcomeOf r.left (app f ts) clash
other_root k i r f ts (is_zero e h) no_p no_f fits = subst (λ q. IsOutcomeOf q.left (app f ts) clash) h (heads_clash (p_symbol k) f _ _ no_p (fits_over_constant (p_symbol k) 1) fits)
other_root k i r f ts (is_successor e h) no_p no_f fits = subst (λ q. IsOutcomeOf q.left (app f ts) clash) h (heads_clash (p_symbol k) f _ _ no_p (fits_twice_over (p_symbol k) 3 0) fits)
other_root k i r f ts (is_end e h) no_p no_f fits = subst (λ q. IsOutcomeOf q.left (app f ts) clash) h (heads_clash (f_symbol k) f _ _ no_f (fits_over_variable (f_symbol k) 0) fits)
other_root k i r f ts (is_next e h) no_p no_f fits = subst (λ q. IsOutcomeOf q.left (app f ts) clash) h (heads_clash (f_symbol k) f _ _ no_f (fits_over_variable (f_symbol k) 0) fits)

-- pk(z) and pk(s(x))
pub zero_or_successor : (k : ℕ) → IsOutcomeOf (p_of k z) (p_of k (s_of x)) clash
zero_or_successor k =
    next_equation (arguments (fits_over_constant (p_symbol k) 1, fits_twice_over (p_symbol k) 3 1) (λ e. cc) _ _ (refl, refl, refl, refl))
    (last_equation (roots_differ (fits_constant 1, fits_over_variable 3 1) (inl (λ e. omega (arith, e)))))

-- fk(x) and fk(x)
abbrev pub one_variable : List Binding
one_variable = record { variable = 0; term = var 1 } ∷ []

different : var 0 ≢ var 1
different e = omega (arith, inside 0 1 e)
  where
    inside : (u v : ℕ) → var u ≡ var v → u ≡ v
    inside u v e = cc

other_arguments : (f : ℕ) → app f (cons (var 0) nil) ≢ app f (cons (var 1) nil)
other_arguments f e = different (cc)

pub both_rules : (k : ℕ) → IsOutcomeOf (f_of k x) (f_of k x) (unifier one_variable)
both_rules k =
    next_equation (arguments (fits_over_variable (f_symbol k) 0, fits_over_variable (f_symbol k) 1) (other_arguments (f_symbol k)) _ _ (refl, refl, refl, refl))
    (next_equation (binding (fits_variable 0, fits_variable 1) different 0 (var 1) (refl, refl) refl one_variable refl (fits_variable 1, tt)) no_equation)

-- pk(z) and pk(x), where x is a hole
abbrev pub zero_for_hole : List Binding
zero_for_hole = record { variable = 1; term = z } ∷ []

pub zero_or_hole : (k : ℕ) → IsOutcomeOf (p_of k z) (p_of k (var 0)) (unifier zero_for_hole)
zero_or_hole k =
    next_equation (arguments (fits_over_constant (p_symbol k) 1, fits_over_variable (p_symbol k) 1) (λ e. cc) _ _ (refl, refl, refl, refl))
    (next_equation (binding (fits_constant 1, fits_variable 1) (λ e. cc) 1 z (refl, refl) refl zero_for_hole refl (fits_constant 1, tt)) no_equation)
