-- The Fibonacci system is almost orthogonal: it has no overlap.
use Rattle.std.proofs.Common.{◌≡◌, ◌≢◌, ℕ, zero, suc, ◌+◌, ◌<◌, ◌≤◌, ◌⊎◌, inl, inr, Bool, true, false, ◌||◌, refl, sym, ◌∙◌, subst, [], ◌∷◌, Some, take, arith, nat_eq, eqb-true, if◌then◌else◌}
use Rattle.general_lemmas.proofs.Numbers.{one_at_most}
use Rattle.rewriting.specs.Prelude.{IsRuleOver, IsLeftLinearRule, IsType3Rule, IsExtendedOrientedRule, IsRightStableRule, IsDefined, IsAt, known, IsStable, IsOverlap, constant, unary}
use Rattle.rewriting.specs.Prelude.{binary, fibonacci}
use Rattle.rewriting.proofs.Instances.{or_cases}
use Rattle.rewriting.proofs.Common.{Term, var, nil, cons, IsVariable, Position, subterm, apply, occurs, occurs_in, IsLinear, IsWithin, IsDisjoint, AreUnifiable, even, odd, Rule, rule_at, left_sides}
use Rattle.rewriting.proofs.Conditions.{no_second, only, no_condition}
use Rattle.level_theorem.specs.AlmostOrthogonal.{IsAlmostOrthogonal}
use Rattle.level_theorem.specs.Example.{add_zero, add_next, fib_zero, fibonacci_numbers}

-- what holds of the four rules under their numbers holds of each rule
each_numbered : (P : ℕ → Rule → Type 0) → P 1 add_zero → P 2 add_next → P 3 fib_zero → P 4 fibonacci → (i : ℕ) (r : Rule) → rule_at fibonacci_numbers i ≡ Some r → P i r
each_numbered P a b c d zero r e = absurd (cc)
each_numbered P a b c d (suc zero) r e = let same : add_zero ≡ r = cc in subst (P 1) same a
each_numbered P a b c d (suc (suc zero)) r e = let same : add_next ≡ r = cc in subst (P 2) same b
each_numbered P a b c d (suc (suc (suc zero))) r e = let same : fib_zero ≡ r = cc in subst (P 3) same c
each_numbered P a b c d (suc (suc (suc (suc zero)))) r e = let same : fibonacci ≡ r = cc in subst (P 4) same d
each_numbered P a b c d (suc (suc (suc (suc (suc i))))) r e = absurd (cc)

each : (P : Rule → Type 0) → P add_zero → P add_next → P fib_zero → P fibonacci → (i : ℕ) (r : Rule) → rule_at fibonacci_numbers i ≡ Some r → P r
each P = each_numbered (λ i r. P r)

at_most_two : (x a b : ℕ) → (a ≡ b → ⊥) → (if nat_eq x a then 1 else 0) + (if nat_eq x b then 1 else 0) ≤ 1
at_most_two x a b k = go (nat_eq x a) (nat_eq x b) refl refl
  where
    go : (p q : Bool) → nat_eq x a ≡ p → nat_eq x b ≡ q → (if p then 1 else 0) + (if q then 1 else 0) ≤ 1
    go true true e e' = absurd (k (sym (eqb-true x a e) ∙ eqb-true x b e'))
    go true false e e' = omega arith
    go false q e e' = let h = one_at_most q in omega (arith, h)

linear_add_zero : IsLinear add_zero.left
linear_add_zero x = let h = one_at_most (nat_eq x 0) in omega (arith, h)

linear_add_next : IsLinear add_next.left
linear_add_next x = let h = at_most_two x 0 1 (λ e. cc) in omega (arith, h)

linear_fib_zero : IsLinear fib_zero.left
linear_fib_zero x = omega arith

linear_fibonacci : IsLinear fibonacci.left
linear_fibonacci x = let h = one_at_most (nat_eq x 0) in omega (arith, h)

linear_pair : IsLinear (binary 2 (var 2) (var 1))
linear_pair x = let h = at_most_two x 2 1 (λ e. cc) in omega (arith, h)

plain_oriented : (r : Rule) → r.conditions ≡ [] → IsExtendedOrientedRule r
plain_oriented r e =
    record {
      m = 0;
      at_most = omega arith;
      before = λ i c lt at. absurd (omega (arith, lt));
      behind = λ j c le at. absurd (no_condition j c (subst (λ cs. IsAt cs j c) e at));
    }

plain_stable : (r : Rule) → r.conditions ≡ [] → IsRightStableRule fibonacci_numbers r
plain_stable r e = record { fresh = λ i c at. absurd (no_condition i c (subst (λ cs. IsAt cs i c) e at)); stable = λ i c at. absurd (no_condition i c (subst (λ cs. IsAt cs i c) e at)) }

-- the condition's left side has the variable of the left side
known_before : IsWithin (unary 0 (var 0)) (known fibonacci 0)
known_before x o = or_cases _ _ o (λ e. rw (eqb-true x 0 e) refl) (λ e. absurd (cc))

oriented : IsExtendedOrientedRule fibonacci
oriented =
    record {
      m = 1;
      at_most = omega arith;
      before = λ i c lt at. only _ c (λ i c. IsWithin c.left (known fibonacci i)) known_before i at;
      behind = λ j c le at x o o'. absurd (no_second _ c j le at);
    }

-- the variables of the pair are y and z
in_pair : (x : ℕ) → occurs x (binary 2 (var 2) (var 1)) ≡ true → (x ≡ 2) ⊎ (x ≡ 1)
in_pair x o = or_cases _ _ o (λ e. inl (eqb-true x 2 e)) (λ e. or_cases _ _ e (λ e. inr (eqb-true x 1 e)) (λ e. absurd (cc)))

in_right : (x : ℕ) → occurs x fibonacci.right ≡ true → (x ≡ 2) ⊎ (x ≡ 1)
in_right x o = or_cases _ _ o (λ e. inr (eqb-true x 1 e)) (λ e. or_cases _ _ e (λ e. in_pair x e) (λ e. absurd (cc)))

-- the variables of the right side are those of the condition's right side
found : IsType3Rule fibonacci
found x o = go x (in_right x o)
  where
    go : (x : ℕ) → (x ≡ 2) ⊎ (x ≡ 1) → occurs_in x (cons fibonacci.left (cons (unary 0 (var 0)) (cons (binary 2 (var 2) (var 1)) nil))) ≡ true
    go x (inl e) = rw e refl
    go x (inr e) = rw e refl

add_zero_found : IsType3Rule add_zero
add_zero_found x o = rw (eqb-true x 0 o) refl

add_next_found : IsType3Rule add_next
add_next_found x o =
    or_cases (nat_eq x 0 || (nat_eq x 1 || false)) false o (λ e. or_cases (nat_eq x 0) (nat_eq x 1 || false) e (λ e. rw (eqb-true x 0 e) refl)
    (λ e. or_cases (nat_eq x 1) false e (λ e. rw (eqb-true x 1 e) refl) (λ e. absurd (cc))))
    (λ e. absurd (cc))

not_defined : IsDefined fibonacci_numbers.rules 2 → ⊥
not_defined (inl e) = cc
not_defined (inr (inl e)) = cc
not_defined (inr (inr (inl e))) = cc
not_defined (inr (inr (inr (inl e)))) = cc
not_defined (inr (inr (inr (inr h)))) = h

-- y and z are not x
fresh : (t : Term) → (IsWithin t (cons (var 0) nil)) → IsDisjoint (binary 2 (var 2) (var 1)) (cons t nil)
fresh t within x o o' = go x (in_pair x o) (or_cases _ _ o' (λ e. within x e) (λ e. absurd (cc)))
  where
    go : (x : ℕ) → (x ≡ 2) ⊎ (x ≡ 1) → occurs_in x (cons (var 0) nil) ≡ true → ⊥
    go x (inl e) o = let bad : occurs_in 2 (cons (var 0) nil) ≡ true = subst (λ y. occurs_in y (cons (var 0) nil) ≡ true) e o in cc
    go x (inr e) o = let bad : occurs_in 1 (cons (var 0) nil) ≡ true = subst (λ y. occurs_in y (cons (var 0) nil) ≡ true) e o in cc

stable : IsRightStableRule fibonacci_numbers fibonacci
stable =
    record {
      fresh = λ i c at. only _ c (λ i c. IsDisjoint c.right (known fibonacci i) × IsDisjoint c.right (left_sides (take (suc i) fibonacci.conditions)))
          (fresh fibonacci.left (λ x o. or_cases _ _ o (λ e. e) (λ e. absurd (cc))), fresh (unary 0 (var 0)) (λ x o. o)) i at;
      stable = λ i c at. only _ c (λ i c. IsStable fibonacci_numbers c.right) (inl (linear_pair, (not_defined, (tt, (tt, tt))))) i at;
    }

-- below the roots of the left sides stand 0, s(x) and variables
abbrev IsBelow : Term → Type 0
IsBelow part = (part ≡ constant 4) ⊎ (part ≡ unary 1 (var 0))

in_zero : (p : Position) (part : Term) → subterm (constant 4) p ≡ Some part → (IsVariable part → ⊥) → IsBelow part
in_zero [] part e v = inl cc
in_zero (k ∷ p) part e v = cc

in_variable : (x : ℕ) (p : Position) (part : Term) → subterm (var x) p ≡ Some part → (IsVariable part → ⊥) → IsBelow part
in_variable x [] part e v = absurd (let same : var x ≡ part = cc in v (subst IsVariable same tt))
in_variable x (k ∷ p) part e v = cc

in_next : (p : Position) (part : Term) → subterm (unary 1 (var 0)) p ≡ Some part → (IsVariable part → ⊥) → IsBelow part
in_next [] part e v = inr cc
in_next (zero ∷ p) part e v = cc
in_next (suc zero ∷ p) part e v = in_variable 0 p part e v
in_next (suc (suc k) ∷ p) part e v = cc

-- what holds below the arguments of a term, where these are no variables
abbrev AreBelow : Term → Type 0
AreBelow t = (p : Position) (part : Term) → subterm t p ≡ Some part → (IsVariable part → ⊥) → IsBelow part

in_unary : (f : ℕ) (t : Term) → AreBelow t → (k : ℕ) (p : Position) (part : Term) → subterm (unary f t) (k ∷ p) ≡ Some part → (IsVariable part → ⊥) → IsBelow part
in_unary f t h zero p part e v = cc
in_unary f t h (suc zero) p part e v = h p part e v
in_unary f t h (suc (suc k)) p part e v = cc

in_binary : (f : ℕ) (t u : Term) → AreBelow t → AreBelow u → (k : ℕ) (p : Position) (part : Term) → subterm (binary f t u) (k ∷ p) ≡ Some part → (IsVariable part → ⊥) → IsBelow part
in_binary f t u h g zero p part e v = cc
in_binary f t u h g (suc zero) p part e v = h p part e v
in_binary f t u h g (suc (suc zero)) p part e v = g p part e v
in_binary f t u h g (suc (suc (suc k))) p part e v = cc

below_root : (j : ℕ) (q : Rule) → rule_at fibonacci_numbers j ≡ Some q → (k : ℕ) (p : Position) (part : Term) → subterm q.left (k ∷ p) ≡ Some part → (IsVariable part → ⊥) → IsBelow part
below_root =
    each (λ q. (k : ℕ) (p : Position) (part : Term) → subterm q.left (k ∷ p) ≡ Some part → (IsVariable part → ⊥) → IsBelow part)
    (in_binary 3 (constant 4) (var 0) in_zero (in_variable 0)) (in_binary 3 (unary 1 (var 0)) (var 1) in_next (in_variable 1))
    (in_unary 0 (constant 4) in_zero) (in_unary 0 (unary 1 (var 0)) in_next)

-- no left side has 0 or s at its root
clash_below : (part : Term) → IsBelow part → (i : ℕ) (q : Rule) → rule_at fibonacci_numbers i ≡ Some q → AreUnifiable (apply even q.left) (apply odd part) → ⊥
clash_below part (inl e) i q at u =
    each (λ q. AreUnifiable (apply even q.left) (apply odd (constant 4)) → ⊥) (λ u. let same = u.1 in cc) (λ u. let same = u.1 in cc) (λ u. let same = u.1 in cc)
    (λ u. let same = u.1 in cc) i q at (subst (λ t. AreUnifiable (apply even q.left) (apply odd t)) e u)
clash_below part (inr e) i q at u =
    each (λ q. AreUnifiable (apply even q.left) (apply odd (unary 1 (var 0))) → ⊥) (λ u. let same = u.1 in cc) (λ u. let same = u.1 in cc) (λ u. let same = u.1 in cc)
    (λ u. let same = u.1 in cc) i q at (subst (λ t. AreUnifiable (apply even q.left) (apply odd t)) e u)

abbrev AreClashing : Rule → Rule → Type 0
AreClashing a b = AreUnifiable (apply even a.left) (apply odd b.left) → ⊥

-- the left sides of two rules clash
clash_at_root : (i j : ℕ) (a b : Rule) → i < j → rule_at fibonacci_numbers i ≡ Some a → rule_at fibonacci_numbers j ≡ Some b → AreClashing a b
clash_at_root i j a b lt at_i at_j =
    each_numbered (λ i a. i < j → AreClashing a b)
    (each_numbered (λ j b. 1 < j → AreClashing add_zero b) (λ l. absurd (omega (arith, l))) (λ l u. let same = u.1 in cc) (λ l u. let same = u.1 in cc) (λ l u. let same = u.1 in cc) j b at_j)
    (each_numbered (λ j b. 2 < j → AreClashing add_next b) (λ l. absurd (omega (arith, l))) (λ l. absurd (omega (arith, l))) (λ l u. let same = u.1 in cc) (λ l u. let same = u.1 in cc) j b at_j)
    (each_numbered (λ j b. 3 < j → AreClashing fib_zero b) (λ l. absurd (omega (arith, l))) (λ l. absurd (omega (arith, l))) (λ l. absurd (omega (arith, l))) (λ l u. let same = u.1 in cc) j b at_j)
    (each_numbered (λ j b. 4 < j → AreClashing fibonacci b) (λ l. absurd (omega (arith, l))) (λ l. absurd (omega (arith, l)))
    (λ l. absurd (omega (arith, l))) (λ l. absurd (omega (arith, l))) j b at_j)
    i a at_i lt

abbrev Empty : Position
Empty = []

counted : (i j : ℕ) → (Empty ≢ Empty) ⊎ (i < j) → i < j
counted i j (inl k) = absurd (k refl)
counted i j (inr lt) = lt

no_overlap : (i : ℕ) (p : Position) (j : ℕ) → IsOverlap fibonacci_numbers i p j → ⊥
no_overlap i [] j o =
    let same : o.outer.left ≡ o.part = (let e = o.place.is_part in cc) in
    clash_at_root i j o.inner o.outer (counted i j o.place.counts) o.place.is_inner o.place.is_outer (subst (λ t. AreUnifiable (apply even o.inner.left) (apply odd t)) (sym same) o.unifiable)
no_overlap i (k ∷ p) j o = clash_below o.part (below_root j o.outer o.place.is_outer k p o.part o.place.is_part o.place.no_variable) i o.inner o.place.is_inner o.unifiable

pub almost_orthogonal : IsAlmostOrthogonal fibonacci_numbers
almost_orthogonal =
    record {
      well_formed = each (IsRuleOver fibonacci_numbers.arities)
          record { over = search; left = λ h. h }
          record { over = search; left = λ h. h }
          record { over = search; left = λ h. h }
          record { over = search; left = λ h. h };
      left_linear = each IsLeftLinearRule linear_add_zero linear_add_next linear_fib_zero linear_fibonacci;
      type3 = each IsType3Rule add_zero_found add_next_found (λ x o. absurd (cc)) found;
      oriented = each IsExtendedOrientedRule (plain_oriented _ refl) (plain_oriented _ refl) (plain_oriented _ refl) oriented;
      right_stable = each (IsRightStableRule fibonacci_numbers) (plain_stable _ refl) (plain_stable _ refl) (plain_stable _ refl) stable;
      overlaps = λ i p j o. absurd (no_overlap i p j o);
    }
