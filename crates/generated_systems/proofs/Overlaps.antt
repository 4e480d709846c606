-- The overlaps of a generated system.
use Rattle.std.proofs.Common.{ℕ, zero, suc, ◌≡◌, ◌≢◌, ◌+◌, ◌*◌, ◌<◌, ◌≤◌, ◌⊎◌, inl, inr, [], ◌∷◌, Some, option_and_then, refl, sym, subst, subst₂, arith}
use Rattle.std.specs.List.{range_with_len}
use native.Mathlib.Decide.{ℕ_discrete}
use Rattle.std.proofs.lemmas.List.FromFn.{length-map-range_with_len}
use Rattle.rewriting.specs.Prelude.{IsAmong, IsSorted, Term, IsVariable, nil, cons, Fits, apply, odd, Position, argument, subterm, Rule, IsPlace}
use Rattle.rewriting.proofs.Lists.{among_map, among_of_map, before_each, sorted_map}
use Rattle.rewriting.proofs.Once.{same_some}
use Rattle.rewriting.proofs.Unifiers.{of_list}
use Rattle.unifier_run.specs.Run.{clash, value}
use Rattle.unifier_run.specs.Overlaps.{Overlap, triple, IsOutcomeOf, IsOverlapOf, ComesBefore}
use Rattle.unifier_run.proofs.General.{most_general}
use Rattle.unifier_run.proofs.Heads.{heads_clash}
use Rattle.generated_systems.specs.Generated.{p_symbol, f_symbol, z, s_of, p_of, f_of, x, next_of, generated}
use Rattle.generated_systems.specs.Certificate.{overlap_for, generated_overlaps}
use Rattle.generated_systems.specs.Laws.{GeneratedHaveOverlaps}
use Rattle.generated_systems.proofs.Rules.{end_rule, next_rule, IsRuleFor, is_zero, is_successor, is_end, is_next, IsNumbered, numbered, end_at, next_at, same_p, p_or_f, no_p, no_f}
use Rattle.generated_systems.proofs.Runs.{fits_constant, fits_over_variable, fits_over_constant, fits_variable, fits_twice_over, other_root, zero_or_successor, one_variable, both_rules}

-- numbers in a row
record IsInRow (a n k : ℕ) : Type 0 where
  low : a ≤ k
  high : k < a + n

in_row : (a n k : ℕ) → IsAmong k (range_with_len a n) → IsInRow a n k
in_row a zero k m = absurd m
in_row a (suc n) k (inl e) = record { low = omega (arith, e); high = omega (arith, e) }
in_row a (suc n) k (inr m) =
    let rest = in_row (a + 1) n k m in
    let low = rest.low in
    let high = rest.high in
    record { low = omega (arith, low); high = omega (arith, high) }

row_has : (a n k i : ℕ) → k ≡ a + i → i < n → IsAmong k (range_with_len a n)
row_has a zero k i e l = absurd (omega (arith, l))
row_has a (suc n) k zero e l = inl (omega (arith, e))
row_has a (suc n) k (suc i) e l = inr (row_has (a + 1) n k i (omega (arith, e)) (omega (arith, l)))

row_sorted : (a n : ℕ) → IsSorted ◌<◌ (range_with_len a n)
row_sorted a zero = tt
row_sorted a (suc n) =
    (before_each ◌<◌ a (range_with_len (a + 1) n) (λ k m. (let low = (in_row (a + 1) n k m).low in omega (arith, low))), row_sorted (a + 1) n)

-- each of the list is an overlap
fits_next : (k : ℕ) → Fits (apply odd (next_of k))
fits_next zero = fits_over_variable 3 1
fits_next (suc k) = fits_over_variable (f_symbol k) 1

renamed_next : (k : ℕ) → apply odd (next_of k) ≡ apply (value one_variable) (apply odd (next_of k))
renamed_next zero = refl
renamed_next (suc k) = refl

is_overlap : (n k : ℕ) → k < n → IsOverlapOf (generated n) (overlap_for k)
is_overlap n k l =
    record {
      inner = end_rule k;
      outer = next_rule k;
      part = f_of k x;
      place = record { is_inner = end_at n k l; is_outer = next_at n k l; is_part = refl; no_variable = λ h. h; counts = inr (omega arith) };
      by = one_variable;
      outcome = both_rules k;
      pair = record { most_general = of_list _ _ _ (most_general _ _ _ (both_rules k)); source = refl; left = refl; right = renamed_next k; conditions = refl };
      fits =
          record {
            source = fits_over_variable (f_symbol k) 1;
            left = fits_variable 1;
            right = fits_next k;
            conditions = (fits_over_variable (p_symbol k) 1, (fits_constant 2, (fits_over_variable (p_symbol k) 1, (fits_constant 4, tt))));
          };
      counted = refl;
    }

-- where a part that is no variable stands: it is the whole left side, or z or s(x) below the root
data IsPartAt (l : Term) (p : Position) (part : Term) : Type 0 where
  whole_side : p ≡ [] → l ≡ part → IsPartAt l p part
  zero_inside : z ≡ part → IsPartAt l p part
  successor_inside : s_of x ≡ part → IsPartAt l p part

-- below a symbol with one argument
only_argument : (t part : Term) (m : ℕ) (q : Position) → option_and_then (λ s. subterm s q) (argument (cons t nil) m) ≡ Some part → subterm t q ≡ Some part
only_argument t part zero q e = cc
only_argument t part (suc zero) q e = e
only_argument t part (suc (suc m)) q e = cc

in_variable : (part : Term) (q : Position) → subterm x q ≡ Some part → IsVariable part
in_variable part [] e = subst IsVariable (same_some _ x part refl e) tt
in_variable part (m ∷ q) e = cc

in_zero : (l part : Term) (p q : Position) → subterm z q ≡ Some part → IsPartAt l p part
in_zero l part p [] e = zero_inside (same_some _ z part refl e)
in_zero l part p (m ∷ q) e = cc

in_successor : (l part : Term) (p q : Position) → (IsVariable part → ⊥) → subterm (s_of x) q ≡ Some part → IsPartAt l p part
in_successor l part p [] never e = successor_inside (same_some _ (s_of x) part refl e)
in_successor l part p (m ∷ q) never e = absurd (never (in_variable part q (only_argument x part m q e)))

part_at : (k j : ℕ) (r : Rule) (p : Position) (part : Term) → IsRuleFor k j r → (IsVariable part → ⊥) → subterm r.left p ≡ Some part → IsPartAt r.left p part
part_at k j r [] part is never e = whole_side refl (same_some _ r.left part refl e)
part_at k j r (m ∷ q) part (is_zero i h) never e = in_zero r.left part (m ∷ q) q (only_argument z part m q (subst (λ u. subterm u.left (m ∷ q) ≡ Some part) (sym h) e))
part_at k j r (m ∷ q) part (is_successor i h) never e = in_successor r.left part (m ∷ q) q never (only_argument (s_of x) part m q (subst (λ u. subterm u.left (m ∷ q) ≡ Some part) (sym h) e))
part_at k j r (m ∷ q) part (is_end i h) never e = absurd (never (in_variable part q (only_argument x part m q (subst (λ u. subterm u.left (m ∷ q) ≡ Some part) (sym h) e))))
part_at k j r (m ∷ q) part (is_next i h) never e = absurd (never (in_variable part q (only_argument x part m q (subst (λ u. subterm u.left (m ∷ q) ≡ Some part) (sym h) e))))

-- at the root, where the rules are for different k
different_k : (k l i j : ℕ) (inner outer : Rule) → k ≢ l → IsRuleFor k i inner → IsRuleFor l j outer → IsOutcomeOf inner.left outer.left clash
different_k k l i j inner outer never is (is_zero e h) =
    subst (λ u. IsOutcomeOf inner.left u.left clash) h (other_root k i inner (p_symbol l) (cons z nil) is (λ s. never (same_p k l s)) (λ s. p_or_f l k (sym s)) (fits_over_constant (p_symbol l) 1))
different_k k l i j inner outer never is (is_successor e h) =
    subst (λ u. IsOutcomeOf inner.left u.left clash) h (other_root k i inner (p_symbol l) (cons (s_of x) nil) is (λ s. never (same_p k l s)) (λ s. p_or_f l k (sym s))
    (fits_twice_over (p_symbol l) 3 1))
different_k k l i j inner outer never is (is_end e h) =
    subst (λ u. IsOutcomeOf inner.left u.left clash) h (other_root k i inner (f_symbol l) (cons x nil) is (λ s. p_or_f k l s) (λ s. never (omega (arith, s))) (fits_over_variable (f_symbol l) 1))
different_k k l i j inner outer never is (is_next e h) =
    subst (λ u. IsOutcomeOf inner.left u.left clash) h (other_root k i inner (f_symbol l) (cons x nil) is (λ s. p_or_f k l s) (λ s. never (omega (arith, s))) (fits_over_variable (f_symbol l) 1))

-- where they are for one k
zero_or_f : (k : ℕ) → IsOutcomeOf (p_of k z) (f_of k x) clash
zero_or_f k = heads_clash (p_symbol k) (f_symbol k) _ _ (p_or_f k k) (fits_over_constant (p_symbol k) 1) (fits_over_variable (f_symbol k) 1)

successor_or_f : (k : ℕ) → IsOutcomeOf (p_of k (s_of x)) (f_of k x) clash
successor_or_f k = heads_clash (p_symbol k) (f_symbol k) _ _ (p_or_f k k) (fits_twice_over (p_symbol k) 3 0) (fits_over_variable (f_symbol k) 1)

abbrev AtRoot : ℕ → ℕ → ℕ → Rule → Rule → Type 0
AtRoot k i j inner outer = IsOutcomeOf inner.left outer.left clash ⊎ ((4 * k + 3 ≡ i) × (4 * k + 4 ≡ j))

same_k : (k i j : ℕ) (inner outer : Rule) → i < j → IsRuleFor k i inner → IsRuleFor k j outer → AtRoot k i j inner outer
same_k k i j inner outer less (is_zero e h) (is_zero d g) = absurd (omega (arith, less, e, d))
same_k k i j inner outer less (is_zero e h) (is_successor d g) = inl (subst₂ (λ q r. IsOutcomeOf q.left r.left clash) h g (zero_or_successor k))
same_k k i j inner outer less (is_zero e h) (is_end d g) = inl (subst₂ (λ q r. IsOutcomeOf q.left r.left clash) h g (zero_or_f k))
same_k k i j inner outer less (is_zero e h) (is_next d g) = inl (subst₂ (λ q r. IsOutcomeOf q.left r.left clash) h g (zero_or_f k))
same_k k i j inner outer less (is_successor e h) (is_end d g) = inl (subst₂ (λ q r. IsOutcomeOf q.left r.left clash) h g (successor_or_f k))
same_k k i j inner outer less (is_successor e h) (is_next d g) = inl (subst₂ (λ q r. IsOutcomeOf q.left r.left clash) h g (successor_or_f k))
same_k k i j inner outer less (is_end e h) (is_next d g) = inr (sym e, sym d)
same_k k i j inner outer less (is_successor e h) (is_zero d g) = absurd (omega (arith, less, e, d))
same_k k i j inner outer less (is_successor e h) (is_successor d g) = absurd (omega (arith, less, e, d))
same_k k i j inner outer less (is_end e h) (is_zero d g) = absurd (omega (arith, less, e, d))
same_k k i j inner outer less (is_end e h) (is_successor d g) = absurd (omega (arith, less, e, d))
same_k k i j inner outer less (is_end e h) (is_end d g) = absurd (omega (arith, less, e, d))
same_k k i j inner outer less (is_next e h) (is_zero d g) = absurd (omega (arith, less, e, d))
same_k k i j inner outer less (is_next e h) (is_successor d g) = absurd (omega (arith, less, e, d))
same_k k i j inner outer less (is_next e h) (is_end d g) = absurd (omega (arith, less, e, d))
same_k k i j inner outer less (is_next e h) (is_next d g) = absurd (omega (arith, less, e, d))

module _ (n : ℕ) where
  abbrev Listed : ℕ → Position → ℕ → Type 0
  Listed i p j = (o : Overlap) × IsAmong o (generated_overlaps n) × (triple o ≡ (i, (p, j)))

  listed : (k i j : ℕ) (p : Position) → k < n → [] ≡ p → 4 * k + 3 ≡ i → 4 * k + 4 ≡ j → Listed i p j
  listed k i j p l e d c = (overlap_for k, among_map overlap_for k (range_with_len 0 n) (row_has 0 n k k (omega arith) l), cc)

  at_root : (i j : ℕ) (p : Position) (inner outer : Rule) (part : Term) → (at : IsNumbered n i inner) → (over : IsNumbered n j outer) → [] ≡ p → outer.left ≡ part → i < j
      → IsOutcomeOf inner.left part clash ⊎ Listed i p j
  at_root i j p inner outer part at over e same less = go (ℕ_discrete at.k over.k)
    where
      settled : AtRoot over.k i j inner outer → IsOutcomeOf inner.left part clash ⊎ Listed i p j
      settled (inl h) = inl (subst (λ u. IsOutcomeOf inner.left u clash) same h)
      settled (inr (d, c)) = inr (listed over.k i j p over.below e d c)

      go : Dec (at.k ≡ over.k) → IsOutcomeOf inner.left part clash ⊎ Listed i p j
      go (yes h) = settled (same_k over.k i j inner outer less (subst (λ k. IsRuleFor k i inner) h at.is_rule) over.is_rule)
      go (no h) = inl (subst (λ u. IsOutcomeOf inner.left u clash) same (different_k at.k over.k i j inner outer h at.is_rule over.is_rule))

  whole : (i : ℕ) (p : Position) (j : ℕ) (inner outer : Rule) (part : Term) → IsPlace (generated n) i p j inner outer part → IsOutcomeOf inner.left part clash ⊎ Listed i p j
  whole i p j inner outer part place = go (part_at over.k j outer p part over.is_rule place.no_variable place.is_part)
    where
      at : IsNumbered n i inner
      at = numbered n i inner place.is_inner

      over : IsNumbered n j outer
      over = numbered n j outer place.is_outer

      earlier : [] ≡ p → (p ≢ []) ⊎ (i < j) → i < j
      earlier e (inl never) = absurd (never (sym e))
      earlier e (inr h) = h

      go : IsPartAt outer.left p part → IsOutcomeOf inner.left part clash ⊎ Listed i p j
      go (whole_side e same) = at_root i j p inner outer part at over (sym e) same (earlier (sym e) place.counts)
      go (zero_inside same) =
          inl (subst (λ u. IsOutcomeOf inner.left u clash) same (other_root at.k i inner 1 nil at.is_rule (λ s. no_p at.k 1 (omega arith) (omega arith) (sym s))
          (λ s. no_f at.k 1 (omega arith) (sym s)) (fits_constant 1)))
      go (successor_inside same) =
          inl (subst (λ u. IsOutcomeOf inner.left u clash) same (other_root at.k i inner 3 (cons x nil) at.is_rule (λ s. no_p at.k 3 (omega arith) (omega arith) (sym s))
          (λ s. no_f at.k 3 (omega arith) (sym s)) (fits_over_variable 3 1)))

  each : (o : Overlap) → IsAmong o (generated_overlaps n) → IsOverlapOf (generated n) o
  each o m =
      let k = among_of_map overlap_for o (range_with_len 0 n) m in
      subst (IsOverlapOf (generated n)) (sym k.2) (is_overlap n k.0 (let high = (in_row 0 n k.0 k.1).high in omega (arith, high)))

pub are_overlaps : GeneratedHaveOverlaps
are_overlaps n few =
    record {
      are =
          record {
            each = λ o m. (each n o m, tt);
            sorted = sorted_map ◌<◌ ComesBefore overlap_for (range_with_len 0 n) (λ k l less. inl (omega (arith, less))) (row_sorted 0 n);
            whole = λ i p j inner outer part place c. whole n i p j inner outer part place;
          };
      few = (let e = length-map-range_with_len overlap_for 0 n in omega (arith, e, few));
    }
