-- What is said of terms whose symbols have entries stays, whatever entries follow.
use Rattle.std.proofs.Common.{ℕ, zero, suc, ◌≡◌, ◌+◌, ◌*◌, ◌^◌, ◌<◌, inl, inr, [], ◌∷◌, ◌++◌, length, slice_get, option_map, unwrap_or, Option, Some, refl, sym, ap, ap₂, subst, arith}
use Rattle.std.proofs.lemmas.List.{length-append}
use Rattle.general_lemmas.proofs.Places.{slice_get-append_left}
use Rattle.rewriting.specs.Prelude.{Term, var, app, Terms, nil, cons, Position, argument, argument_of, subterm, Rule, System}
use Rattle.rewriting.proofs.Positions.{within}
use Rattle.certificates.specs.Certificates.{LinearEntry}
use Rattle.interpretations.specs.Linear.{Interpretation, numbers_of, number_of, constant, constant_from, coefficient, coefficient_from, IsLarge, HasLargePart, Overflows, Falls, IsGood}
use Rattle.measure_grid.specs.Dead.{HasEntries, HaveEntries, IsDead}

module _ (es more : Interpretation) where
  pub numbers_kept : (f : ℕ) → f < length es → numbers_of (es ++ more) f ≡ numbers_of es f
  numbers_kept f l = ap (λ (o : Option LinearEntry). unwrap_or (option_map (λ e. e.coefficients) o) []) (slice_get-append_left es more f l)

  pub number_kept : (f k : ℕ) → f < length es → number_of (es ++ more) f k ≡ number_of es f k
  number_kept f k l = ap (λ ns. unwrap_or (slice_get ns k) 0) (numbers_kept f l)

  mutual
    constant_kept : (t : Term) → HasEntries es t → constant (es ++ more) t ≡ constant es t
    constant_kept (var x) h = refl
    constant_kept (app f ts) (l, h) = ap₂ (λ m n. m + n) (number_kept f 0 l) (constants_kept f 1 ts l h)

    constants_kept : (f k : ℕ) (ts : Terms) → f < length es → HaveEntries es ts → constant_from (es ++ more) f k ts ≡ constant_from es f k ts
    constants_kept f k nil l h = refl
    constants_kept f k (cons t ts) l (h, hs) = ap₂ (λ m n. m + n) (ap₂ (λ m n. m * n) (number_kept f k l) (constant_kept t h)) (constants_kept f (suc k) ts l hs)

  mutual
    coefficient_kept : (x : ℕ) (t : Term) → HasEntries es t → coefficient (es ++ more) x t ≡ coefficient es x t
    coefficient_kept x (var y) h = refl
    coefficient_kept x (app f ts) (l, h) = coefficients_kept x f 1 ts l h

    coefficients_kept : (x f k : ℕ) (ts : Terms) → f < length es → HaveEntries es ts → coefficient_from (es ++ more) x f k ts ≡ coefficient_from es x f k ts
    coefficients_kept x f k nil l h = refl
    coefficients_kept x f k (cons t ts) l (h, hs) = ap₂ (λ m n. m + n) (ap₂ (λ m n. m * n) (number_kept f k l) (coefficient_kept x t h)) (coefficients_kept x f (suc k) ts l hs)

  -- so do the symbols of a part
  argument_has : (ts : Terms) (k : ℕ) (s : Term) → HaveEntries es ts → argument ts k ≡ Some s → HasEntries es s
  argument_has nil k s h e = absurd (cc)
  argument_has (cons t ts) zero s h e = absurd (cc)
  argument_has (cons t ts) (suc zero) s (h, hs) e = let same : t ≡ s = cc in subst (HasEntries es) same h
  argument_has (cons t ts) (suc (suc k)) s (h, hs) e = argument_has ts (suc k) s hs e

  argument_of_has : (t : Term) (k : ℕ) (s : Term) → HasEntries es t → argument_of t k ≡ Some s → HasEntries es s
  argument_of_has (var x) k s h e = absurd (cc)
  argument_of_has (app f ts) k s (l, h) e = argument_has ts k s h e

  part_has : (p : Position) (t u : Term) → HasEntries es t → subterm t p ≡ Some u → HasEntries es u
  part_has [] t u h e = let same : t ≡ u = cc in subst (HasEntries es) same h
  part_has (k ∷ p) t u h e = let below = within t k p u e in part_has p below.part u (argument_of_has t k below.part h below.here) below.inside

  large_kept : (t : Term) → HasEntries es t → IsLarge es t → IsLarge (es ++ more) t
  large_kept t h (inl l) = inl (subst (λ n. 2 ^ 100 < n) (sym (constant_kept t h)) l)
  large_kept t h (inr (x, l)) = inr (x, subst (λ n. 2 ^ 100 < n) (sym (coefficient_kept x t h)) l)

  pub large_part_kept : (t : Term) → HasEntries es t → HasLargePart es t → HasLargePart (es ++ more) t
  large_part_kept t h (p, u, at, l) = (p, u, at, large_kept u (part_has p t u h at) l)

  pub large_before : (t : Term) → HasEntries es t → IsLarge (es ++ more) t → IsLarge es t
  large_before t h (inl l) = inl (subst (λ n. 2 ^ 100 < n) (constant_kept t h) l)
  large_before t h (inr (x, l)) = inr (x, subst (λ n. 2 ^ 100 < n) (coefficient_kept x t h) l)

  large_part_before : (t : Term) → HasEntries es t → HasLargePart (es ++ more) t → HasLargePart es t
  large_part_before t h (p, u, at, l) = (p, u, at, large_before u (part_has p t u h at) l)

  module _ (r : Rule) (left : HasEntries es r.left) (right : HasEntries es r.right) where
    overflow_kept : Overflows es r → Overflows (es ++ more) r
    overflow_kept (inl l) = inl (large_part_kept r.left left l)
    overflow_kept (inr l) = inr (large_part_kept r.right right l)

    overflow_before : Overflows (es ++ more) r → Overflows es r
    overflow_before (inl l) = inl (large_part_before r.left left l)
    overflow_before (inr l) = inr (large_part_before r.right right l)

    pub falls_before : Falls (es ++ more) r → Falls es r
    falls_before f =
        record {
          bounded = λ o. f.bounded (overflow_kept o);
          coefficients = λ x. let a = coefficient_kept x r.right right in let b = coefficient_kept x r.left left in let h = f.coefficients x in omega (arith, a, b, h);
          constants = let a = constant_kept r.right right in let b = constant_kept r.left left in let h = f.constants in omega (arith, a, b, h);
        }

    pub falls_more : Falls es r → Falls (es ++ more) r
    falls_more f =
        record {
          bounded = λ o. f.bounded (overflow_before o);
          coefficients = λ x. let a = coefficient_kept x r.right right in let b = coefficient_kept x r.left left in let h = f.coefficients x in omega (arith, a, b, h);
          constants = let a = constant_kept r.right right in let b = constant_kept r.left left in let h = f.constants in omega (arith, a, b, h);
        }

  mutual
    has_more : (t : Term) → HasEntries es t → HasEntries (es ++ more) t
    has_more (var x) h = tt
    has_more (app f ts) (l, h) = (let sum = length-append es more in omega (arith, l, sum), have_more ts h)

    have_more : (ts : Terms) → HaveEntries es ts → HaveEntries (es ++ more) ts
    have_more nil h = tt
    have_more (cons t ts) (h, hs) = (has_more t h, have_more ts hs)

  -- what extends a dead prefix is dead
  pub dead_more : (sys : System) → IsDead sys es → IsDead sys (es ++ more)
  dead_more sys d =
      record {
        number = d.number;
        rule = d.rule;
        is_rule = d.is_rule;
        left = has_more d.rule.left d.left;
        right = has_more d.rule.right d.right;
        rises = λ f. d.rises (falls_before d.rule d.left d.right f);
      }

-- and nothing dead is good
pub dead_or_good : (sys : System) (es : Interpretation) → IsDead sys es → IsGood sys es → ⊥
dead_or_good sys es d g = d.rises (g.rules d.number d.rule d.is_rule)

pub dead_barren : (sys : System) (es more : Interpretation) → IsDead sys es → IsGood sys (es ++ more) → ⊥
dead_barren sys es more d g = dead_or_good sys (es ++ more) (dead_more es more sys d) g
