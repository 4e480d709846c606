-- The triples of two rules and a position in order, and the overlaps at a list of triples.
use Rattle.std.proofs.Common.{ℕ, ◌≡◌, ◌⊎◌, inl, inr, List, [], ◌∷◌, ◌++◌, refl, sym, ap, ◌∙◌, subst, arith}
use Rattle.rewriting.specs.Prelude.{Term, Position, IsBefore, Rule, System, IsPlace, IsEarlierOverlap, IsAmong, IsBeforeAll, IsSorted}
use Rattle.rewriting.proofs.Lists.{among_either, before_one, sorted_left, sorted_right, sorted_across}
use Rattle.rewriting.proofs.Before.{before_not_same, before_not_both}
use Rattle.unifier_run.specs.Run.{clash}
use Rattle.unifier_run.specs.Triples.{DoesClash}
use Rattle.unifier_run.specs.Overlaps.{Triple, Overlap, triple, ComesBefore, IsOutcomeOf, IsOverlapOf, AreOverlapsAt}

-- each triple of the first list is earlier than each of the second
abbrev pub AreEarlier : List Triple → List Triple → Type 0
AreEarlier ts us = (t u : Triple) → IsAmong t ts → IsAmong u us → IsEarlierOverlap t u

-- each triple is earlier than those behind it
abbrev pub AreInOrder : List Triple → Type 0
AreInOrder = IsSorted IsEarlierOverlap

-- no triple is earlier than itself, and no two are earlier than each other
pub earlier_not_same : (t : Triple) → IsEarlierOverlap t t → ⊥
earlier_not_same (i, (p, j)) (inl h) = omega (arith, h)
earlier_not_same (i, (p, j)) (inr (e, inl h)) = before_not_same p h
earlier_not_same (i, (p, j)) (inr (e, inr (f, h))) = omega (arith, h)

pub earlier_not_both : (t u : Triple) → IsEarlierOverlap t u → IsEarlierOverlap u t → ⊥
earlier_not_both (i, (p, j)) (k, (q, l)) (inl h) (inl g) = omega (arith, h, g)
earlier_not_both (i, (p, j)) (k, (q, l)) (inl h) (inr (e, g)) = omega (arith, h, e)
earlier_not_both (i, (p, j)) (k, (q, l)) (inr (e, h)) (inl g) = omega (arith, g, e)
earlier_not_both (i, (p, j)) (k, (q, l)) (inr (e, inl h)) (inr (f, inl g)) = before_not_both p q h g
earlier_not_both (i, (p, j)) (k, (q, l)) (inr (e, inl h)) (inr (f, inr (s, g))) = before_not_same p (subst (λ z. IsBefore p z) s h)
earlier_not_both (i, (p, j)) (k, (q, l)) (inr (e, inr (s, h))) (inr (f, inl g)) = before_not_same q (subst (λ z. IsBefore q z) s g)
earlier_not_both (i, (p, j)) (k, (q, l)) (inr (e, inr (s, h))) (inr (f, inr (r, g))) = omega (arith, h, g)

-- os are exactly the overlaps at the triples, in order
abbrev pub AreThose : System → List Triple → List Overlap → Type 0
AreThose sys [] os = os ≡ []
AreThose sys (t ∷ ts) os = (DoesClash sys t × AreThose sys ts os) ⊎ ((o : Overlap) × (qs : List Overlap) × (os ≡ o ∷ qs) × IsOverlapOf sys o × (triple o ≡ t) × AreThose sys ts qs)

pub those_append : (sys : System) (ts us : List Triple) (os qs : List Overlap) → AreThose sys ts os → AreThose sys us qs → AreThose sys (ts ++ us) (os ++ qs)
those_append sys [] us os qs h k = subst (λ z. AreThose sys us (z ++ qs)) (sym h) k
those_append sys (t ∷ ts) us os qs (inl (c, h)) k = inl (c, those_append sys ts us os qs h k)
those_append sys (t ∷ ts) us os qs (inr (o, rs, e, is, at, h)) k = inr (o, rs ++ qs, ap (λ z. z ++ qs) e, is, at, those_append sys ts us rs qs h k)

-- an overlap of the list is at one of the triples
those_at : (sys : System) (ts : List Triple) (os : List Overlap) (o : Overlap) → AreThose sys ts os → IsAmong o os → IsOverlapOf sys o × IsAmong (triple o) ts
those_at sys [] os o h m = absurd (subst (IsAmong o) h m)
those_at sys (t ∷ ts) os o (inl (c, h)) m = let r = those_at sys ts os o h m in (r.0, inr r.1)
those_at sys (t ∷ ts) os o (inr (a, qs, e, is, at, h)) m = go (subst (IsAmong o) e m) (those_at sys ts qs o h)
  where
    go : (o ≡ a) ⊎ IsAmong o qs → (IsAmong o qs → IsOverlapOf sys o × IsAmong (triple o) ts) → IsOverlapOf sys o × IsAmong (triple o) (t ∷ ts)
    go (inl s) f = (subst (IsOverlapOf sys) (sym s) is, inl (ap triple s ∙ at))
    go (inr n) f = let r = f n in (r.0, inr r.1)

before_those : (sys : System) (ts : List Triple) (os : List Overlap) (o : Overlap) → AreThose sys ts os → ((u : Triple) → IsAmong u ts → IsEarlierOverlap (triple o) u) → IsBeforeAll ComesBefore o os
before_those sys [] os o h e = subst (IsBeforeAll ComesBefore o) (sym h) tt
before_those sys (t ∷ ts) os o (inl (c, h)) e = before_those sys ts os o h (λ u m. e u (inr m))
before_those sys (t ∷ ts) os o (inr (a, qs, s, is, at, h)) e = subst (IsBeforeAll ComesBefore o) (sym s) (
  subst (IsEarlierOverlap (triple o)) (sym at) (e t (inl refl)),
  before_those sys ts qs o h (λ u m. e u (inr m)),
)

those_sorted : (sys : System) (ts : List Triple) (os : List Overlap) → AreThose sys ts os → AreInOrder ts → IsSorted ComesBefore os
those_sorted sys [] os h e = subst (IsSorted ComesBefore) (sym h) tt
those_sorted sys (t ∷ ts) os (inl (c, h)) e = those_sorted sys ts os h e.1
those_sorted sys (t ∷ ts) os (inr (a, qs, s, is, at, h)) e =
    subst (IsSorted ComesBefore) (sym s) (before_those sys ts qs a h (λ u m. subst (λ z. IsEarlierOverlap z u) (sym at) (before_one IsEarlierOverlap t u ts e.0 m)), those_sorted sys ts qs h e.1)

those_whole : (sys : System) (ts : List Triple) (os : List Overlap) (i : ℕ) (p : Position) (j : ℕ) (inner outer : Rule) (part : Term) → AreThose sys ts os → IsAmong (i, (p, j)) ts
    → IsPlace sys i p j inner outer part
    → IsOutcomeOf inner.left part clash ⊎ ((o : Overlap) × IsAmong o os × (triple o ≡ (i, (p, j))))
those_whole sys [] os i p j inner outer part h m place = absurd m
those_whole sys (t ∷ ts) os i p j inner outer part (inl (c, h)) (inl e) place = inl (subst (DoesClash sys) (sym e) c inner outer part place)
those_whole sys (t ∷ ts) os i p j inner outer part (inl (c, h)) (inr m) place = those_whole sys ts os i p j inner outer part h m place
those_whole sys (t ∷ ts) os i p j inner outer part (inr (a, qs, s, is, at, h)) (inl e) place = inr (a, subst (IsAmong a) (sym s) (inl refl), at ∙ sym e)
those_whole sys (t ∷ ts) os i p j inner outer part (inr (a, qs, s, is, at, h)) (inr m) place = go (those_whole sys ts qs i p j inner outer part h m place)
  where
    go : IsOutcomeOf inner.left part clash ⊎ ((o : Overlap) × IsAmong o qs × (triple o ≡ (i, (p, j)))) → IsOutcomeOf inner.left part clash ⊎ ((o : Overlap) × IsAmong o os × (triple o ≡ (i, (p, j))))
    go (inl k) = inl k
    go (inr (o, l, k)) = inr (o, subst (IsAmong o) (sym s) (inr l), k)

-- where the triples are in order, and those that count are among them
pub overlaps_at : (sys : System) (Counts : Triple → Type 0) (ts : List Triple) (os : List Overlap) → AreInOrder ts → ((t : Triple) → IsAmong t ts → Counts t)
    → ((i : ℕ) (p : Position) (j : ℕ) (inner outer : Rule) (part : Term) → IsPlace sys i p j inner outer part → Counts (i, (p, j)) → IsAmong (i, (p, j)) ts)
    → AreThose sys ts os → AreOverlapsAt sys Counts os
overlaps_at sys Counts ts os order counts whole h =
    record {
      each = λ o m. (let r = those_at sys ts os o h m in (r.0, counts (triple o) r.1));
      sorted = those_sorted sys ts os h order;
      whole = λ i p j inner outer part place c. those_whole sys ts os i p j inner outer part h (whole i p j inner outer part place c) place;
    }

-- those before one of the triples
pub overlaps_before : (sys : System) (ts us : List Triple) (t : Triple) (os : List Overlap) → AreInOrder (ts ++ t ∷ us)
    → ((i : ℕ) (p : Position) (j : ℕ) (inner outer : Rule) (part : Term) → IsPlace sys i p j inner outer part → IsAmong (i, (p, j)) (ts ++ t ∷ us)) → AreThose sys ts os
    → AreOverlapsAt sys (λ u. IsEarlierOverlap u t) os
overlaps_before sys ts us t os order whole h =
    overlaps_at sys (λ u. IsEarlierOverlap u t) ts os (sorted_left IsEarlierOverlap ts (t ∷ us) order) (λ u m. sorted_across IsEarlierOverlap ts (t ∷ us) order u t m (inl refl))
    (λ i p j inner outer part place c. go (i, (p, j)) c (among_either (i, (p, j)) ts (t ∷ us) (whole i p j inner outer part place))) h
  where
    go : (u : Triple) → IsEarlierOverlap u t → IsAmong u ts ⊎ IsAmong u (t ∷ us) → IsAmong u ts
    go u c (inl m) = m
    go u c (inr (inl e)) = absurd (earlier_not_same t (subst (λ z. IsEarlierOverlap z t) e c))
    go u c (inr (inr m)) = absurd (earlier_not_both u t c (before_one IsEarlierOverlap t u us (sorted_right IsEarlierOverlap ts (t ∷ us) order).0 m))
