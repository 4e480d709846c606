-- Overlaps of rules that an earlier system has too are those of its list, with other numbers.
use Rattle.std.proofs.Common.{ℕ, ◌≡◌, ◌≢◌, ◌<◌, ◌⊎◌, inl, inr, List, [], ◌∷◌, flat_map, Option, Some, None, IsSome, refl, sym, ap, ◌∙◌, subst, subst₂}
use Rattle.rewriting.specs.Prelude.{IsAmong, IsSorted, Term, Position, IsBefore, subterm, Rule, System, IsPlace, IsCriticalPair, IsEarlierOverlap}
use Rattle.rewriting.proofs.Lists.{among_either, among_right, before_one}
use Rattle.rewriting.proofs.Members.{flat_among, of_flat, sorted_flat}
use Rattle.unifier_run.specs.Run.{value, unifier, clash}
use Rattle.unifier_run.specs.Overlaps.{Triple, Overlap, triple, ComesBefore, IsOutcomeOf, DoesPairFit, IsOverlapOf, AreOverlapsAt, AreOverlaps}
use Rattle.unifier_run.specs.Triples.{all_triples, DoesClash}
use Rattle.unifier_run.proofs.Spots.{has_all}
use Rattle.unifier_run.proofs.Triples.{earlier_not_same, earlier_not_both}
use Rattle.unifier_run.proofs.Unique.{runs_same}
use Rattle.critical_pairs.specs.Offers.{DoesPass}
use Rattle.critical_pairs.specs.Kept.{number_at, AreOrigins, AreNumbersNow, with_numbers, renumbered, IsOld}
use Rattle.critical_pairs.proofs.Sizes.{some_is}
use Rattle.critical_pairs.proofs.Origins.{rule_same, numbers_up, one_number, lower_now}

-- the same overlap with other numbers
pub record IsWithNumbers (o q : Overlap) (a b : Option ℕ) : Type 0 where
  pub inner : a ≡ Some q.inner
  pub outer : b ≡ Some q.outer
  pub position : q.position ≡ o.position
  pub pair : q.pair ≡ o.pair
  pub counted : q.inner_conditions ≡ o.inner_conditions

from_numbers : (o q : Overlap) (a b : Option ℕ) → IsAmong q (with_numbers o a b) → IsWithNumbers o q a b
from_numbers o q (Some i) (Some j) (inl h) =
    record { inner = ap (λ z. Some z.inner) (sym h); outer = ap (λ z. Some z.outer) (sym h); position = ap (λ z. z.position) h; pair = ap (λ z. z.pair) h; counted = ap (λ z. z.inner_conditions) h }
from_numbers o q (Some i) (Some j) (inr m) = absurd m
from_numbers o q (Some i) None m = absurd m
from_numbers o q None b m = absurd m

one_sorted : (o : Overlap) (a b : Option ℕ) → IsSorted ComesBefore (with_numbers o a b)
one_sorted o (Some i) (Some j) = (tt, tt)
one_sorted o (Some i) None = tt
one_sorted o None b = tt

module _ (e sys : System) (os now : List (Option ℕ)) (are : AreOrigins e sys os) (inverse : AreNumbersNow os now) where
  -- where an overlap of the earlier system has new numbers
  module _ (o q : Overlap) (m : IsAmong q (renumbered now o)) where
    with_those : IsWithNumbers o q (number_at now o.inner) (number_at now o.outer)
    with_those = from_numbers o q (number_at now o.inner) (number_at now o.outer) m

    inner_origin : number_at os q.inner ≡ Some o.inner
    inner_origin = (inverse q.inner o.inner).1 with_those.inner

    outer_origin : number_at os q.outer ≡ Some o.outer
    outer_origin = (inverse q.outer o.outer).1 with_those.outer

    is_old : IsOld os (triple q)
    is_old = (subst IsSome (sym inner_origin) refl, subst IsSome (sym outer_origin) refl)

    still_counts : (o.position ≢ []) ⊎ (o.inner < o.outer) → (q.position ≢ []) ⊎ (q.inner < q.outer)
    still_counts (inl n) = inl (λ z. n (sym with_those.position ∙ z))
    still_counts (inr less) = inr (lower_now e sys os are q.inner q.outer o.inner o.outer less inner_origin outer_origin)

    still_overlap : IsOverlapOf e o → IsOverlapOf sys q
    still_overlap h =
        record {
          inner = h.inner;
          outer = h.outer;
          part = h.part;
          place =
              record {
                is_inner = rule_same e sys os are q.inner o.inner inner_origin ∙ h.place.is_inner;
                is_outer = rule_same e sys os are q.outer o.outer outer_origin ∙ h.place.is_outer;
                is_part = subst (λ z. subterm h.outer.left z ≡ Some h.part) (sym with_those.position) h.place.is_part;
                no_variable = h.place.no_variable;
                counts = still_counts h.place.counts;
              };
          by = h.by;
          outcome = h.outcome;
          pair = subst₂ (λ y z. IsCriticalPair (value h.by) y h.inner h.outer h.part z) (sym with_those.position) (sym with_those.pair) h.pair;
          fits = subst DoesPairFit (sym with_those.pair) h.fits;
          counted = with_those.counted ∙ h.counted;
        }

  still_before : (o r : Overlap) → ComesBefore o r → (p q : Overlap) → IsAmong p (renumbered now o) → IsAmong q (renumbered now r) → ComesBefore p q
  still_before o r h p q k l = go h
    where
      go : IsEarlierOverlap (triple o) (triple r) → IsEarlierOverlap (triple p) (triple q)
      go (inl less) = inl (lower_now e sys os are p.outer q.outer o.outer r.outer less (outer_origin o p k) (outer_origin r q l))
      go (inr (same, inl before)) =
          inr (
            one_number e sys os are p.outer q.outer o.outer r.outer same (outer_origin o p k) (outer_origin r q l),
            inl (subst₂ IsBefore (sym (with_those o p k).position) (sym (with_those r q l).position) before),
          )
      go (inr (same, inr (there, less))) =
          inr (
            one_number e sys os are p.outer q.outer o.outer r.outer same (outer_origin o p k) (outer_origin r q l),
            inr ((with_those o p k).position ∙ (there ∙ sym (with_those r q l).position), lower_now e sys os are p.inner q.inner o.inner r.inner less (inner_origin o p k) (inner_origin r q l)),
          )

  module _ (known : List Overlap) (have : AreOverlaps e known) where
    abbrev Kept : List Overlap
    Kept = flat_map (renumbered now) known

    -- at a place of two old rules
    module _ (i : ℕ) (p : Position) (j : ℕ) (inner outer : Rule) (part : Term) (place : IsPlace sys i p j inner outer part) (a b : ℕ) (ga : number_at os i ≡ Some a)
        (gb : number_at os j ≡ Some b) where
      was_place : IsPlace e a p b inner outer part
      was_place =
          record {
            is_inner = sym (rule_same e sys os are i a ga) ∙ place.is_inner;
            is_outer = sym (rule_same e sys os are j b gb) ∙ place.is_outer;
            is_part = place.is_part;
            no_variable = place.no_variable;
            counts = counted place.counts;
          }
        where
          counted : (p ≢ []) ⊎ (i < j) → (p ≢ []) ⊎ (a < b)
          counted (inl n) = inl n
          counted (inr less) = inr (numbers_up e sys os are i j a b less ga gb)

      now_there : (o : Overlap) → IsAmong o known → triple o ≡ (a, (p, b)) → (q : Overlap) × IsAmong q Kept × (triple q ≡ (i, (p, j)))
      now_there o m t =
          let q : Overlap = record { inner = i; position = o.position; outer = j; pair = o.pair; inner_conditions = o.inner_conditions } in
          let left : number_at now o.inner ≡ Some i = ap (λ z. number_at now z.0) t ∙ (inverse i a).0 ga in
          let right : number_at now o.outer ≡ Some j = ap (λ z. number_at now z.1.1) t ∙ (inverse j b).0 gb in (
            q,
            flat_among (renumbered now) o q known m (subst₂ (λ x y. IsAmong q (with_numbers o x y)) (sym left) (sym right) (inl refl)),
            ap (λ z. (i, (z.1.0, j))) t,
          )

      found_there : IsOutcomeOf inner.left part clash ⊎ ((q : Overlap) × IsAmong q Kept × (triple q ≡ (i, (p, j))))
      found_there = go (have.are.whole a p b inner outer part was_place tt)
        where
          go : IsOutcomeOf inner.left part clash ⊎ ((o : Overlap) × IsAmong o known × (triple o ≡ (a, (p, b))))
              → IsOutcomeOf inner.left part clash ⊎ ((q : Overlap) × IsAmong q Kept × (triple q ≡ (i, (p, j))))
          go (inl c) = inl c
          go (inr (o, m, t)) = inr (now_there o m t)

    pub kept_overlaps : AreOverlapsAt sys (λ t. IsOld os t × IsAmong t (all_triples sys)) Kept
    kept_overlaps =
        record {
          each = λ q m. one q (of_flat (renumbered now) q known m);
          sorted = sorted_flat (renumbered now) ComesBefore ComesBefore still_before known (λ o m. one_sorted o (number_at now o.inner) (number_at now o.outer)) have.are.sorted;
          whole = λ i p j inner outer part place old. (let a = some_is (number_at os i) old.0.0 in let b = some_is (number_at os j) old.0.1 in
              found_there i p j inner outer part place a.0 b.0 a.1 b.1);
        }
      where
        one : (q : Overlap) → (o : Overlap) × IsAmong o known × IsAmong q (renumbered now o) → IsOverlapOf sys q × (IsOld os (triple q) × IsAmong (triple q) (all_triples sys))
        one q (o, m, k) = (let is = still_overlap o q k (have.are.each o m).0 in (is, (is_old o q k, has_all sys q.inner q.position q.outer is.inner is.outer is.part is.place)))

-- no run both has a unifier and clashes
overlap_or_clash : (sys : System) (o : Overlap) → IsOverlapOf sys o → DoesClash sys (triple o) → ⊥
overlap_or_clash sys o h c = let two : unifier h.by ≡ clash = runs_same h.outcome (c h.inner h.outer h.part h.place) in absurd (cc)

-- the overlaps at those triples of a list that are old
abbrev pub Ahead : System → List (Option ℕ) → List Triple → List Overlap → Type 0
Ahead sys os ts qs = AreOverlapsAt sys (λ t. IsOld os t × IsAmong t ts) qs

module _ (sys : System) (os : List (Option ℕ)) where
  pub ahead_passed : (from to : List Triple) (qs : List Overlap) → DoesPass sys from to → Ahead sys os from qs → Ahead sys os to qs
  ahead_passed from to qs pass h =
      record {
        each = λ o m. (let is = h.each o m in (is.0, (is.1.0, left o is.0 (among_either (triple o) pass.passed to (subst (IsAmong (triple o)) pass.split is.1.1)))));
        sorted = h.sorted;
        whole = λ i p j inner outer part place c. h.whole i p j inner outer part place (c.0, subst (IsAmong (i, (p, j))) (sym pass.split) (among_right (i, (p, j)) pass.passed to c.1));
      }
    where
      left : (o : Overlap) → IsOverlapOf sys o → IsAmong (triple o) pass.passed ⊎ IsAmong (triple o) to → IsAmong (triple o) to
      left o is (inl k) = absurd (overlap_or_clash sys o is (pass.clash (triple o) k))
      left o is (inr k) = k

  module _ (t : Triple) (ts : List Triple) (order : IsSorted IsEarlierOverlap (t ∷ ts)) where
    not_later : IsAmong t ts → ⊥
    not_later m = earlier_not_same t (before_one IsEarlierOverlap t t ts order.0 m)

    -- the first is taken, which is at the first triple
    pub ahead_taken : (o : Overlap) (qs : List Overlap) → triple o ≡ t → Ahead sys os (t ∷ ts) (o ∷ qs) → Ahead sys os ts qs
    ahead_taken o qs at h =
        record {
          each = λ q m. (let is = h.each q (inr m) in (is.0, (is.1.0, later q m is.1.1)));
          sorted = h.sorted.1;
          whole = λ i p j inner outer part place c. other (i, (p, j)) c.1 (h.whole i p j inner outer part place (c.0, inr c.1));
        }
      where
        later : (q : Overlap) → IsAmong q qs → (triple q ≡ t) ⊎ IsAmong (triple q) ts → IsAmong (triple q) ts
        later q m (inl s) = absurd (earlier_not_same t (subst₂ IsEarlierOverlap at s (before_one ComesBefore o q qs h.sorted.0 m)))
        later q m (inr k) = k

        other : {A : Type 0} (u : Triple) → IsAmong u ts → A ⊎ ((q : Overlap) × IsAmong q (o ∷ qs) × (triple q ≡ u)) → A ⊎ ((q : Overlap) × IsAmong q qs × (triple q ≡ u))
        other u m (inl a) = inl a
        other u m (inr (q, inl s, e)) = absurd (not_later (subst (λ z. IsAmong z ts) (sym e ∙ (ap triple s ∙ at)) m))
        other u m (inr (q, inr k, e)) = inr (q, k, e)

    -- the first is at none or another one
    pub next_clashes : IsOld os t → (qs : List Overlap) → Ahead sys os (t ∷ ts) qs → ((o : Overlap) (rest : List Overlap) → qs ≡ o ∷ rest → triple o ≡ t → ⊥) → DoesClash sys t
    next_clashes old qs h none = λ inner outer part place. go qs h none (h.whole t.0 t.1.0 t.1.1 inner outer part place (old, inl refl))
      where
        behind : (o q : Overlap) → IsEarlierOverlap (triple o) (triple q) → triple q ≡ t → (triple o ≡ t → ⊥) → (triple o ≡ t) ⊎ IsAmong (triple o) ts → ⊥
        behind o q before e never (inl s) = never s
        behind o q before e never (inr m) = earlier_not_both t (triple o) (before_one IsEarlierOverlap t (triple o) ts order.0 m) (subst (IsEarlierOverlap (triple o)) e before)

        go : {A : Type 0} (qs : List Overlap) → Ahead sys os (t ∷ ts) qs → ((o : Overlap) (rest : List Overlap) → qs ≡ o ∷ rest → triple o ≡ t → ⊥)
            → A ⊎ ((q : Overlap) × IsAmong q qs × (triple q ≡ t)) → A
        go qs h none (inl a) = a
        go [] h none (inr (q, m, e)) = absurd m
        go (o ∷ qs) h none (inr (q, inl s, e)) = absurd (none o qs refl (ap triple (sym s) ∙ e))
        go (o ∷ qs) h none (inr (q, inr m, e)) = absurd (behind o q (before_one ComesBefore o q qs h.sorted.0 m) e (none o qs refl) (h.each o (inl refl)).1.1)
