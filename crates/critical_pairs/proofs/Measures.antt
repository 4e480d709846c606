-- Nodes and levels of terms, of terms with a part replaced, and of the pair that a substitution makes.
use Rattle.std.proofs.Common.{ℕ, zero, suc, ◌≡◌, ◌+◌, ◌-◌, ◌<◌, ◌≤◌, ◌⊎◌, ◌↔◌, inl, inr, [], ◌∷◌, length, max, Option, Some, None, is_some, IsTrue, IfSome, IfNone, refl, sym, ap, ◌∙◌, subst, arith}
use Rattle.std.proofs.lemmas.Bool.{false≢true}
use Rattle.rewriting.specs.Prelude.{Term, Terms, var, app, nil, cons, size, size_all, depth, depth_all, Fits, Position, argument, with_argument, subterm, replace, Substitution, apply, Rule}
use Rattle.rewriting.specs.Prelude.{sides, Each, CriticalPair, conditions_under}
use Rattle.rewriting.proofs.Positions.{below, within, replace-subterm}
use Rattle.rewriting.proofs.Places.{subterm-apply}
use Rattle.unifier_run.specs.Overlaps.{DoesPairFit}
use Rattle.critical_pairs.specs.Building.{IsMade}
use Rattle.critical_pairs.proofs.Conditions.{fit_append, fit_left, fit_right}
use Rattle.critical_pairs.proofs.Sizes.{argument_small, fits_part}

-- v is t with u in place of its part s at a position of n numbers
pub record IsExchanged (n : ℕ) (t s u v : Term) : Type 0 where
  pub nodes : size v + size s ≡ size t + size u
  pub above : n + depth u ≤ depth v
  pub levels : depth v ≤ max (depth t) (n + depth u)

record AreExchanged (ts : Terms) (s u : Term) (vs : Terms) : Type 0 where
  pub nodes : size_all vs + size s ≡ size_all ts + size u
  pub above : depth u ≤ depth_all vs
  pub levels : depth_all vs ≤ max (depth_all ts) (depth u)

exchange_all : (ts : Terms) (k : ℕ) (s u : Term) → argument ts k ≡ Some s → AreExchanged ts s u (with_argument ts k u)
exchange_all nil k s u e = absurd (cc)
exchange_all (cons t ts) zero s u e = absurd (cc)
exchange_all (cons t ts) (suc zero) s u e =
    let same : t ≡ s = cc in
    let a = ap size same in
    record { nodes = omega (arith, a); above = omega arith; levels = omega arith }
exchange_all (cons t ts) (suc (suc k)) s u e =
    let h = exchange_all ts (suc k) s u e in
    record { nodes = omega (arith, h.nodes); above = omega (arith, h.above); levels = omega (arith, h.levels) }

one_level : (whole wholes new old part n levels : ℕ) → whole ≡ suc wholes → wholes ≤ max old new → new ≤ max part (n + levels) → part ≤ old → whole ≤ max (suc old) (suc n + levels)
one_level whole wholes new old part n levels e a b c = omega (arith, e, a, b, c)

pub exchange : (t : Term) (p : Position) (s u v : Term) → subterm t p ≡ Some s → replace t p u ≡ Some v → IsExchanged (length p) t s u v
exchange t [] s u v e h =
    let same : t ≡ s = cc in
    let new : u ≡ v = cc in
    let a = ap size same in
    let b = ap size new in
    let d = ap depth new in
    record { nodes = omega (arith, a, b); above = omega (arith, d); levels = omega (arith, d) }
exchange (var x) (k ∷ p) s u v e h = absurd (cc)
exchange (app f ts) (k ∷ p) s u v e h =
    let b = below (app f ts) k p u v h in
    let w = within (app f ts) k p s e in
    let same : w.part ≡ b.part = (let both : Some w.part ≡ Some b.part = sym w.here ∙ b.here in cc) in
    let x = exchange b.part p s u b.result (subst (λ z. subterm z p ≡ Some s) same w.inside) b.inside in
    let all = exchange_all ts k b.part b.result b.here in
    let nodes = ap size b.whole in
    let levels = ap depth b.whole in
    record {
      nodes = omega (arith, all.nodes, x.nodes, nodes);
      above = omega (arith, all.above, x.above, levels);
      levels = one_level _ _ _ _ _ _ _ levels all.levels x.levels (argument_small ts k b.part b.here).1;
    }

-- a part stands below as many levels as its position has numbers
pub part_below : (t : Term) (p : Position) (s : Term) → subterm t p ≡ Some s → length p + depth s ≤ depth t
part_below t p s e = (exchange t p s s t e (replace-subterm t p s e)).above

module _ (m : Substitution) (t part : Term) (p : Position) (there : Some part ≡ subterm t p) where
  here : subterm (apply m t) p ≡ Some (apply m part)
  here = subterm-apply m t p part (sym there)

  pub few_numbers : depth (apply m t) ≤ 400 → length p ≤ 400
  few_numbers h = let b = part_below (apply m t) p (apply m part) here in omega (arith, h, b)

  pub part_fits : (10000 < size (apply m part)) ⊎ (400 < depth (apply m part)) → Fits (apply m t) → ⊥
  part_fits (inl h) f = let g = fits_part (apply m t) p (apply m part) here f in omega (arith, h, g.nodes)
  part_fits (inr h) f = let g = fits_part (apply m t) p (apply m part) here f in omega (arith, h, g.levels)

  -- with as many nodes and levels as are left
  module _ (u : Term) (spare rest : ℕ) (whole : spare + size (apply m t) ≡ 10000) (levels : depth (apply m t) ≤ 400) (free : rest + size (apply m part) ≡ 10000) where
    pub both_fit : (r : Option ℕ) → IfSome r (λ left. left + size (apply m u) ≡ spare + (10000 - rest)) → IfSome r (λ _. depth (apply m u) ≤ 400 - length p)
        → IfNone r ((spare + (10000 - rest) < size (apply m u)) ⊎ (400 - length p < depth (apply m u)))
        → (v : Term) → replace (apply m t) p (apply m u) ≡ Some v → (IsTrue (is_some r) ↔ Fits (apply m t) × Fits v)
    both_fit (Some left) nodes high none v e =
        let x = exchange (apply m t) p (apply m part) (apply m u) v here e in
        let few = few_numbers levels in
        (λ _. (record { nodes = omega (arith, whole); levels = levels }, record { nodes = omega (arith, x.nodes, nodes, whole, free); levels = omega (arith, x.levels, high, levels, few) }), λ _. refl)
    both_fit None nodes high none v e =
        let x = exchange (apply m t) p (apply m part) (apply m u) v here e in
        (λ h. absurd (false≢true h), λ f. absurd (too_large x f.1 none))
      where
        too_large : IsExchanged (length p) (apply m t) (apply m part) (apply m u) v → Fits v → (spare + (10000 - rest) < size (apply m u)) ⊎ (400 - length p < depth (apply m u)) → ⊥
        too_large x f (inl h) = omega (arith, x.nodes, f.nodes, h, whole, free)
        too_large x f (inr h) = omega (arith, x.above, f.levels, h)

-- a pair fits where its parts do
module _ (m : Substitution) (p : Position) (inner outer : Rule) (pair : CriticalPair) (made : IsMade m p inner outer pair) where
  pub whole_fits : Fits (apply m outer.left) × Fits pair.left → Fits (apply m outer.right) → Each Fits (sides (conditions_under m inner.conditions))
      → Each Fits (sides (conditions_under m outer.conditions)) → DoesPairFit pair
  whole_fits both right cs ds =
      record {
        source = subst Fits (sym made.source) both.0;
        left = both.1;
        right = subst Fits (sym made.right) right;
        conditions = subst (λ z. Each Fits (sides z)) (sym made.conditions) (fit_append _ _ cs ds);
      }

  pub inner_of : DoesPairFit pair → Each Fits (sides (conditions_under m inner.conditions))
  inner_of f = fit_left _ (conditions_under m outer.conditions) (subst (λ z. Each Fits (sides z)) made.conditions f.conditions)

  pub outer_of : DoesPairFit pair → Each Fits (sides (conditions_under m outer.conditions))
  outer_of f = fit_right (conditions_under m inner.conditions) _ (subst (λ z. Each Fits (sides z)) made.conditions f.conditions)
