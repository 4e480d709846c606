-- States that include others.
use Rattle.std.proofs.Common.{◌≡◌, ◌↔◌, ℕ, ◌+◌, ◌<◌, ◌≤◌, ◌⊎◌, inl, inr, ⊎_elim, List, sym, subst, arith}
use Rattle.std.proofs.lemmas.Bool.{cases_lt}
use Rattle.automata.specs.Closed.{Includes}
use Rattle.automaton_runs.specs.Counted.{Indexed, Finds}
use Rattle.rewriting.specs.Lists.{IsAmong}
use Rattle.number_sets.specs.Relation.{Relates}
use Rattle.number_sets.specs.declared.rows.NumberRelation.{NumberRelation}
use Rattle.tree_automata.specs.Kept.{AreIncluding, IsInclusion}

-- the states below a number that include p
abbrev pub IsPart : Indexed → ℕ → ℕ → List ℕ → Type 0
IsPart a p i set = (q : ℕ) → IsAmong q set ↔ ((q < i) × Includes (Finds a) q p)

module _ (a : Indexed) (p i : ℕ) (set new : List ℕ) (part : IsPart a p i set) where
  pub part_more : ((q : ℕ) → IsAmong q new ↔ (IsAmong q set ⊎ (q ≡ i))) → Includes (Finds a) i p → IsPart a p (i + 1) new
  part_more put here q = (λ h. into ((put q).0 h), λ (low, twins). (put q).1 (back low twins))
    where
      into : IsAmong q set ⊎ (q ≡ i) → (q < i + 1) × Includes (Finds a) q p
      into (inl k) = let b = (part q).0 k in let low = b.0 in (omega arith, b.1)
      into (inr f) = (omega arith, subst (λ (r : ℕ). Includes (Finds a) r p) (sym f) here)

      back : q < i + 1 → Includes (Finds a) q p → IsAmong q set ⊎ (q ≡ i)
      back low twins = ⊎_elim (λ (l : q < i). inl ((part q).1 (l, twins))) (λ (l : i ≤ q). let f : q ≡ i = omega arith in inr f) (cases_lt q i)

  pub part_same : new ≡ set → (Includes (Finds a) i p → ⊥) → IsPart a p (i + 1) new
  part_same e never q = subst (λ (l : List ℕ). IsAmong q l ↔ ((q < i + 1) × Includes (Finds a) q p)) (sym e) (into, λ (low, twins). back low twins)
    where
      into : IsAmong q set → (q < i + 1) × Includes (Finds a) q p
      into h = let b = (part q).0 h in let low = b.0 in (omega arith, b.1)

      back : q < i + 1 → Includes (Finds a) q p → IsAmong q set
      back low twins =
          ⊎_elim (λ (l : q < i). (part q).1 (l, twins))
          (λ (l : i ≤ q). let f : q ≡ i = omega arith in absurd (never (subst (λ (r : ℕ). Includes (Finds a) r p) f twins))) (cases_lt q i)

pub part_all : (a : Indexed) (p i : ℕ) (set : List ℕ) → IsPart a p i set → a.automaton.states ≡ i → AreIncluding a p set
part_all a p i set part e q = subst (λ (n : ℕ). IsAmong q set ↔ ((q < n) × Includes (Finds a) q p)) (sym e) (part q)

-- the states below n, each with those that include it
abbrev pub IsInclusionBelow : Indexed → ℕ → NumberRelation → Type 0
IsInclusionBelow a n r = (p q : ℕ) → Relates r p q ↔ ((p < n) × (q < a.automaton.states) × Includes (Finds a) q p)

pub inclusion_none : (a : Indexed) (r : NumberRelation) → ((p q : ℕ) → Relates r p q → ⊥) → IsInclusionBelow a 0 r
inclusion_none a r never p q = (λ h. absurd (never p q h), λ k. let low = k.0 in absurd (omega arith))

pub inclusion_more : (a : Indexed) (n : ℕ) (r new : NumberRelation) (set : List ℕ) → IsInclusionBelow a n r → AreIncluding a n set
    → ((p q : ℕ) → Relates new p q ↔ (Relates r p q ⊎ ((p ≡ n) × IsAmong q set)))
    → IsInclusionBelow a (n + 1) new
inclusion_more a n r new set front here put p q = (λ h. into ((put p q).0 h), λ k. (put p q).1 (back k.0 k.1 k.2))
  where
    into : Relates r p q ⊎ ((p ≡ n) × IsAmong q set) → (p < n + 1) × (q < a.automaton.states) × Includes (Finds a) q p
    into (inl h) = let b = (front p q).0 h in let low = b.0 in (omega arith, b.1, b.2)
    into (inr (e, h)) = let b = (here q).0 h in (omega arith, b.0, subst (λ (s : ℕ). Includes (Finds a) q s) (sym e) b.1)

    back : p < n + 1 → q < a.automaton.states → Includes (Finds a) q p → Relates r p q ⊎ ((p ≡ n) × IsAmong q set)
    back low state twins =
        ⊎_elim (λ (l : p < n). inl ((front p q).1 (l, state, twins)))
        (λ (l : n ≤ p). let e : p ≡ n = omega arith in inr (e, (here q).1 (state, subst (λ (s : ℕ). Includes (Finds a) q s) e twins))) (cases_lt p n)

pub inclusion_all : (a : Indexed) (n : ℕ) (r : NumberRelation) → IsInclusionBelow a n r → a.automaton.states ≡ n → IsInclusion a r
inclusion_all a n r front e p q = subst (λ (m : ℕ). Relates r p q ↔ ((p < m) × (q < a.automaton.states) × Includes (Finds a) q p)) (sym e) (front p q)
