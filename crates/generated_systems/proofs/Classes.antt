-- The generated systems are in the four classes of almost orthogonal systems.
use Rattle.std.proofs.Common.{ℕ, zero, suc, ◌≡◌, ◌+◌, ◌<◌, ◌≤◌, ◌||◌, inl, inr, true, false, nat_eq, [], ◌∷◌, sym, subst, arith}
use Rattle.std.proofs.lemmas.Bool.{or_left}
use Rattle.general_lemmas.proofs.Numbers.{one_at_most}
use Rattle.rewriting.specs.Prelude.{Term, app, nil, cons, occurs, occurrences, IsWithin, IsGround, IsLinear, Condition, Rule, EachRule, IsAt, known, IsLeftLinearRule, IsType3Rule}
use Rattle.rewriting.specs.Prelude.{IsExtendedOrientedRule, IsDefined, IsConstructorTerm, IsRightStableRule}
use Rattle.rewriting.proofs.Conditions.{no_second}
use Rattle.generated_systems.specs.Generated.{z, true as yes_term, false as no_term, s_of, p_of, f_of, x, next_of, generated}
use Rattle.generated_systems.specs.Laws.{GeneratedAreInOrthoClasses}
use Rattle.generated_systems.proofs.Rules.{IsRuleFor, is_zero, is_successor, is_end, is_next, rules_from, numbered, no_p, no_f}

left_linear : (k i : ℕ) (r : Rule) → IsRuleFor k i r → IsLeftLinearRule r
left_linear k i r (is_zero e h) = subst IsLeftLinearRule h (λ v. omega arith)
left_linear k i r (is_successor e h) = subst IsLeftLinearRule h (λ v. let h = one_at_most (nat_eq v 0) in omega (arith, h))
left_linear k i r (is_end e h) = subst IsLeftLinearRule h (λ v. let h = one_at_most (nat_eq v 0) in omega (arith, h))
left_linear k i r (is_next e h) = subst IsLeftLinearRule h (λ v. let h = one_at_most (nat_eq v 0) in omega (arith, h))

-- of type 3
next_has : (k v : ℕ) → occurs v (next_of k) ≡ true → (nat_eq v 0 || false) ≡ true
next_has zero v o = o
next_has (suc k) v o = o

type3 : (k i : ℕ) (r : Rule) → IsRuleFor k i r → IsType3Rule r
type3 k i r (is_zero e h) = subst IsType3Rule h (λ v o. cc)
type3 k i r (is_successor e h) = subst IsType3Rule h (λ v o. cc)
type3 k i r (is_end e h) = subst IsType3Rule h (λ v o. or_left (nat_eq v 0 || false) _ (or_left (nat_eq v 0) false o))
type3 k i r (is_next e h) = subst IsType3Rule h (λ v o. or_left (nat_eq v 0 || false) _ (next_has k v o))

-- extended properly oriented
unconditional : (l r : Term) → IsExtendedOrientedRule (record { left = l; right = r; conditions = [] })
unconditional l r = record { m = 0; at_most = omega arith; before = λ i c b a. absurd (omega (arith, b)); behind = λ j c b a. cc }

the_one : (c d : Condition) (i : ℕ) → IsAt (c ∷ []) i d → c ≡ d
the_one c d zero a = cc
the_one c d (suc i) a = cc

oriented_before : (l r : Term) (c : Condition) → IsWithin c.left (cons l nil) → (i : ℕ) (d : Condition) → i < 1 → IsAt (c ∷ []) i d
    → IsWithin d.left (known (record { left = l; right = r; conditions = c ∷ [] }) i)
oriented_before l r c w zero d b a = subst (λ q. IsWithin q.left (cons l nil)) (the_one c d zero a) w
oriented_before l r c w (suc i) d b a = absurd (omega (arith, b))

one_condition : (l r : Term) (c : Condition) → IsWithin c.left (cons l nil) → IsExtendedOrientedRule (record { left = l; right = r; conditions = c ∷ [] })
one_condition l r c w = record { m = 1; at_most = omega arith; before = oriented_before l r c w; behind = λ j d b a. absurd (no_second c d j b a) }

oriented : (k i : ℕ) (r : Rule) → IsRuleFor k i r → IsExtendedOrientedRule r
oriented k i r (is_zero e h) = subst IsExtendedOrientedRule h (unconditional (p_of k z) yes_term)
oriented k i r (is_successor e h) = subst IsExtendedOrientedRule h (unconditional (p_of k (s_of x)) no_term)
oriented k i r (is_end e h) = subst IsExtendedOrientedRule h (one_condition (f_of k x) x _ (λ v o. or_left (nat_eq v 0 || false) false o))
oriented k i r (is_next e h) = subst IsExtendedOrientedRule h (one_condition (f_of k x) (next_of k) _ (λ v o. or_left (nat_eq v 0 || false) false o))

-- right-stable: true and false are the root of no left side
not_defined : (f a n : ℕ) → 0 < f → f < 5 → IsDefined (rules_from a n) f → ⊥
not_defined f a zero low high h = h
not_defined f a (suc n) low high (inl e) = no_p a f low high e
not_defined f a (suc n) low high (inr (inl e)) = no_p a f low high e
not_defined f a (suc n) low high (inr (inr (inl e))) = no_f a f high e
not_defined f a (suc n) low high (inr (inr (inr (inl e)))) = no_f a f high e
not_defined f a (suc n) low high (inr (inr (inr (inr h)))) = not_defined f (a + 1) n low high h

under_constant : (n f : ℕ) (l r t : Term) → 0 < f → f < 5 → IsRightStableRule (generated n) (record { left = l; right = r; conditions = record { left = t; right = app f nil } ∷ [] })
under_constant n f l r t low high = record { fresh = λ i c a. (λ v o k. ground i c a v o, λ v o k. ground i c a v o); stable = λ i c a. inl (linear i c a, constructor i c a) }
  where
    condition : Condition
    condition = record { left = t; right = app f nil }

    ground : (i : ℕ) (c : Condition) → IsAt (condition ∷ []) i c → IsGround c.right
    ground i c a v o = (let e = subst (λ q. occurs v q.right ≡ true) (sym (the_one condition c i a)) o in cc)

    linear : (i : ℕ) (c : Condition) → IsAt (condition ∷ []) i c → IsLinear c.right
    linear i c a v = subst (λ q. occurrences v q.right ≤ 1) (the_one condition c i a) (omega arith)

    constructor : (i : ℕ) (c : Condition) → IsAt (condition ∷ []) i c → IsConstructorTerm (generated n) c.right
    constructor i c a = subst (λ q. IsConstructorTerm (generated n) q.right) (the_one condition c i a) (not_defined f 0 n low high, tt)

without_conditions : (n : ℕ) (l r : Term) → IsRightStableRule (generated n) (record { left = l; right = r; conditions = [] })
without_conditions n l r = record { fresh = λ i c a. cc; stable = λ i c a. cc }

right_stable : (n k i : ℕ) (r : Rule) → IsRuleFor k i r → IsRightStableRule (generated n) r
right_stable n k i r (is_zero e h) = subst (IsRightStableRule (generated n)) h (without_conditions n (p_of k z) yes_term)
right_stable n k i r (is_successor e h) = subst (IsRightStableRule (generated n)) h (without_conditions n (p_of k (s_of x)) no_term)
right_stable n k i r (is_end e h) = subst (IsRightStableRule (generated n)) h (under_constant n 2 (f_of k x) x (p_of k x) (omega arith) (omega arith))
right_stable n k i r (is_next e h) = subst (IsRightStableRule (generated n)) h (under_constant n 4 (f_of k x) (next_of k) (p_of k x) (omega arith) (omega arith))

-- each rule is one of those for some k
each_rule : (n : ℕ) (P : Rule → Type 0) → ((k i : ℕ) (r : Rule) → IsRuleFor k i r → P r) → EachRule (generated n) P
each_rule n P h i r e = let is = numbered n i r e in h is.k i r is.is_rule

pub in_classes : GeneratedAreInOrthoClasses
in_classes n =
    record {
      left_linear = each_rule n IsLeftLinearRule left_linear;
      type3 = each_rule n IsType3Rule type3;
      oriented = each_rule n IsExtendedOrientedRule oriented;
      right_stable = each_rule n (IsRightStableRule (generated n)) (right_stable n);
    }
