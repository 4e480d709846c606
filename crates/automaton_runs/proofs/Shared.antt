-- The numbers that each of some relations has at the state at its place, and where they are put.
use Rattle.std.proofs.Common.{◌≡◌, ◌↔◌, ◌⊎◌, inl, inr, ⊎_elim, ℕ, suc, ◌+◌, ◌<◌, ◌≤◌, List, [], ◌∷◌, length, get_or, take, drop, Option, None, Some, unwrap_or, Bor, refl, ap, sym, subst, ◌∙◌, arith}
use Rattle.std.proofs.lemmas.List.{get_or-map, get_or_default}
use Rattle.rewriting.specs.Lists.{IsAmong}
use Rattle.number_sets.specs.Sets.{members}
use Rattle.number_sets.specs.Relation.{Relates, row_of, members_at}
use Rattle.number_sets.specs.declared.rows.NumberRelation.{NumberRelation}
use Rattle.number_sets.specs.declared.words.NumberSet.{NumberSet}
use Rattle.automaton_runs.specs.Reached.{AreRelated, IsOneOf}
use Rattle.automaton_runs.specs.Relations.{relation_of, relations}
use Rattle.automaton_runs.specs.declared.relations.Evaluated.{Evaluated}
use Rattle.automaton_runs.proofs.Zips.{zip_length, zip_step, zip_all, zip_at}

-- the relation at a place
pub relation_at : (es : List Evaluated) (i : ℕ) (e : Evaluated) (r : NumberRelation) → i < length es → e ≡ get_or es i e → r ≡ relation_of e → r ≡ get_or (relations es) i r
relation_at es i e r inside is same = same ∙ ap relation_of is ∙ sym (get_or-map relation_of es i e r inside)

-- a row, or an empty set in its place
pub row_or_none : (o : Option (Bor NumberSet)) (none : Bor NumberSet) → members none.now ≡ [] → members (unwrap_or o none).now ≡ members_at o
row_or_none None none e = e
row_or_none (Some row) none e = refl

module _ (all : List ℕ) (rs : List NumberRelation) (qs : List ℕ) where
  module _ (alike : length rs ≡ length qs) (i : ℕ) (r : NumberRelation) (inside : i < length rs) (is : r ≡ get_or rs i r) where
    pub shared_more : (old new row : List ℕ) → row ≡ row_of r (get_or qs i 0) → ((k : ℕ) → IsAmong k new ↔ (IsAmong k old × IsAmong k row))
        → ((k : ℕ) → IsAmong k old ↔ (IsAmong k all × AreRelated (take i rs) (take i qs) k))
        → (k : ℕ) → IsAmong k new ↔ (IsAmong k all × AreRelated (take (i + 1) rs) (take (i + 1) qs) k)
    shared_more old new row here kept front k =
        let s = zip_step (λ r q. Relates r q k) rs qs i r (get_or qs i 0) inside (omega (arith, alike)) is (get_or_default qs i 0 (get_or qs i 0) (omega (arith, alike))) in (
          λ h. let p = (kept k).0 h in let f = (front k).0 p.0 in (f.0, s.1 (f.1, subst (IsAmong k) here p.1)),
          λ (n, z). let p = s.0 z in (kept k).1 ((front k).1 (n, p.0), subst (IsAmong k) (sym here) p.1),
        )

  pub shared_all : (i : ℕ) (set : List ℕ) → length rs ≤ i → length rs ≡ length qs → ((k : ℕ) → IsAmong k set ↔ (IsAmong k all × AreRelated (take i rs) (take i qs) k)) → (k : ℕ)
      → IsAmong k set ↔ (IsAmong k all × AreRelated rs qs k)
  shared_all i set past alike front k =
      let w = zip_all (λ r q. Relates r q k) rs qs i past (omega (arith, alike)) in (λ h. let f = (front k).0 h in (f.0, w.0 f.1), λ (n, z). (front k).1 (n, w.1 z))

-- a state that one of the relations lacks
pub not_related : (rs : List NumberRelation) (qs : List ℕ) (i : ℕ) (r : NumberRelation) → i < length rs → r ≡ get_or rs i r → (((k : ℕ) × Relates r (get_or qs i 0) k) → ⊥)
    → length rs ≡ length qs → (k : ℕ) → AreRelated rs qs k → ⊥
not_related rs qs i r inside is never alike k z = never (k, zip_at (λ r q. Relates r q k) rs qs i r (get_or qs i 0) inside is (get_or_default qs i 0 (get_or qs i 0) (omega (arith, alike))) z)

pub as_many : (rs : List NumberRelation) (qs : List ℕ) (k : ℕ) → AreRelated rs qs k → length rs ≡ length qs
as_many rs qs k z = zip_length (λ r q. Relates r q k) rs qs z

-- what is put to a target
module _ {S T : ℕ → Type 0} (old : NumberRelation) (target : ℕ) where
  pub put_as : (new : NumberRelation) → ((q k : ℕ) → Relates new q k ↔ (Relates old q k ⊎ ((q ≡ target) × S k))) → ((k : ℕ) → S k ↔ T k) → (q k : ℕ)
      → Relates new q k ↔ (Relates old q k ⊎ ((q ≡ target) × T k))
  put_as new put same q k = (λ h. ⊎_elim inl (λ (e, s). inr (e, (same k).0 s)) ((put q k).0 h), λ h. (put q k).1 (⊎_elim inl (λ (e, t). inr (e, (same k).1 t)) h))

-- by the first relation and the others
pub first_state : (qs : List ℕ) (n s : ℕ) → suc n ≡ length qs → s ≡ get_or qs 0 s → qs ≡ s ∷ drop 1 qs
first_state [] n s long is = absurd (omega arith)
first_state (q ∷ qs) n s long is = ap (λ (p : ℕ). p ∷ qs) (sym is)

module _ (r : NumberRelation) (rs : List NumberRelation) (qs : List ℕ) (n s : ℕ) (long : suc n ≡ length qs) (is : s ≡ get_or qs 0 s) where
  pub related_first : (row : List ℕ) → row ≡ row_of r s → (k : ℕ) → (IsAmong k row × AreRelated rs (drop 1 qs) k) ↔ AreRelated (r ∷ rs) qs k
  related_first row here k =
      subst (λ (ps : List ℕ). (IsAmong k row × AreRelated rs (drop 1 qs) k) ↔ AreRelated (r ∷ rs) ps k) (sym (first_state qs n s long is))
      (λ h. (subst (IsAmong k) here h.0, h.1), λ h. (subst (IsAmong k) (sym here) h.0, h.1))

  -- what is put of the first, and kept of the others
  pub related_rest : (old row front new : List ℕ) → old ≡ [] → row ≡ row_of r s → ((k : ℕ) → IsAmong k front ↔ (IsAmong k old ⊎ IsAmong k row))
      → ((k : ℕ) → IsAmong k new ↔ (IsAmong k front × AreRelated rs (drop 1 qs) k))
      → (k : ℕ) → IsAmong k new ↔ AreRelated (r ∷ rs) qs k
  related_rest old row front new none here put kept k =
      let f = related_first row here k in (
        λ h. let p = (kept k).0 h in f.0 (⊎_elim (λ o. absurd (subst (IsAmong k) none o)) (λ i. i) ((put k).0 p.0), p.1),
        λ z. let p = f.1 z in (kept k).1 ((put k).1 (inr p.0), p.1),
      )

pub one_of_all : (rs : List NumberRelation) (all : List ℕ) (k : ℕ) → IsAmong k all → IsOneOf rs all k
one_of_all [] all k h = h
one_of_all (r ∷ rs) all k h = tt
