-- A search for the overlaps of a system that has a list of them.
use Rattle.std.proofs.Common.{suc, ◌≡◌, ◌≤◌, inl, inr, List, [], ◌∷◌, ◌++◌, length, refl, sym, ap, ◌∙◌, subst, arith, append_assoc}
use Rattle.std.proofs.lemmas.List.{length-append, append-nil}
use Rattle.rewriting.specs.Prelude.{IsAmong, System}
use Rattle.unifier_run.specs.Run.{unifier, clash}
use Rattle.unifier_run.specs.Overlaps.{Triple, Overlap, triple, IsOverlapOf, AreOverlaps}
use Rattle.unifier_run.specs.Triples.{all_triples, DoesClash}
use Rattle.unifier_run.proofs.Triples.{AreThose, those_append, overlaps_at}
use Rattle.unifier_run.proofs.Spots.{has_all, order_all}
use Rattle.unifier_run.proofs.Unique.{runs_same}
use Rattle.critical_pairs.specs.Offers.{Search, search_of, DoesPass, IsOffered, IsDone, DoesStay, IsRefused}
use Rattle.critical_pairs.specs.declared.OverlapError.{OverlapError}
use Rattle.critical_pairs.specs.declared.OverlapError.TheVariants.{PairTooLarge, TooManyPairs, NoMemory}
use Rattle.critical_pairs.proofs.Passing.{none_there}
use Rattle.critical_pairs.proofs.Whole.{Gathered, one_more, all_found, list_refused}
use Rattle.valid_certificates.proofs.OneOverlaps.{overlaps_or_large, overlaps_or_many}
use Rattle.pair_check.specs.Underway.{AreAll, IsUnderway}

-- at a triple with an overlap the run does not clash
clash_or_overlap : (sys : System) (t : Triple) (o : Overlap) → DoesClash sys t → IsOverlapOf sys o → triple o ≡ t → ⊥
clash_or_overlap sys t o c is at = (let both = runs_same is.outcome (subst (DoesClash sys) (sym at) c is.inner is.outer is.part is.place) in no_clash both)
  where
    no_clash : unifier is.by ≡ clash → ⊥
    no_clash e = cc

-- the overlaps behind triples at which the run clashes
behind_clashes : (sys : System) (ts us : List Triple) (os : List Overlap) → ((t : Triple) → IsAmong t ts → DoesClash sys t) → AreThose sys (ts ++ us) os → AreThose sys us os
behind_clashes sys [] us os c h = h
behind_clashes sys (t ∷ ts) us os c (inl (_, h)) = behind_clashes sys ts us os (λ u m. c u (inr m)) h
behind_clashes sys (t ∷ ts) us os c (inr (o, qs, e, is, at, h)) = absurd (clash_or_overlap sys t o (c t (inl refl)) is at)

-- the overlaps behind one at the first triple
behind_one : (sys : System) (us : List Triple) (o : Overlap) (os : List Overlap) → IsOverlapOf sys o → AreThose sys (triple o ∷ us) os
    → (qs : List Overlap) × AreThose sys us qs × (length os ≡ suc (length qs))
behind_one sys us o os is (inl (c, h)) = absurd (clash_or_overlap sys (triple o) o c is refl)
behind_one sys us o os is (inr (q, qs, e, _, at, h)) = (qs, h, ap length e)

-- those at all triples are the overlaps of the system
pub are_all : (sys : System) (os : List Overlap) → AreAll sys os → AreOverlaps sys os
are_all sys os h =
    record {
      are = overlaps_at sys (λ t. Unit {0}) (all_triples sys) os (order_all sys) (λ t m. tt) (λ i p j inner outer part place u. has_all sys i p j inner outer part place) h.those;
      few = h.few;
    }

-- a search that has ended has come to all overlaps
pub walked : (sys : System) (s t : Search) (os : List Overlap) → Gathered sys s os → IsDone s t → AreAll sys os
walked sys s t os g h =
    let passed = h.passes.passed in
    let none = none_there sys passed (λ u m. subst (λ z. DoesClash z u) g.system (h.passes.clash u m)) in
    let last : s.rest ≡ passed = h.passes.split ∙ append-nil passed in
    record {
      those =
          subst (λ z. AreThose sys z os) (sym (g.split ∙ ap (λ z. g.earlier ++ z) last))
          (subst (AreThose sys (g.earlier ++ passed)) (append-nil os) (those_append sys g.earlier passed os [] g.those none));
      few = subst (λ z. z ≤ 20000) g.counted g.few;
    }

-- before its first overlap
pub begins : (sys : System) (os : List Overlap) → AreAll sys os → IsUnderway sys (search_of sys) [] os
begins sys os h =
    let few = h.few in
    record {
      gathered = record { system = refl; earlier = []; split = refl; those = refl; counted = refl; few = omega arith };
      ahead = h.those;
      few = omega (arith, few);
    }

module _ (sys : System) (s : Search) (offered later : List Overlap) (h : IsUnderway sys s offered later) where
  -- what was offered and what comes are the overlaps of the system
  pub all_of : AreOverlaps sys (offered ++ later)
  all_of =
      let few = h.few in
      let long = length-append offered later in
      are_all sys (offered ++ later)
      (record {
        those = subst (λ z. AreThose sys z (offered ++ later)) (sym h.gathered.split) (those_append sys h.gathered.earlier s.rest offered later h.gathered.those h.ahead);
        few = omega (arith, few, long);
      })

  clashes : (ts : List Triple) (k : DoesPass s.system s.rest ts) (u : Triple) → IsAmong u k.passed → DoesClash sys u
  clashes ts k u m = subst (λ z. DoesClash z u) h.gathered.system (k.clash u m)

  come : (ts : List Triple) (k : DoesPass s.system s.rest ts) → AreThose sys ts later
  come ts k = behind_clashes sys k.passed ts later (clashes ts k) (subst (λ z. AreThose sys z later) k.split h.ahead)

  -- one overlap further
  pub goes_on : (t : Search) (o : Overlap) → t.system ≡ s.system → IsOffered s t o → (rest : List Overlap) × IsUnderway sys t (offered ++ o ∷ []) rest
  goes_on t o e k =
      let (rest, those, count) = behind_one sys t.rest o later (subst (λ z. IsOverlapOf z o) h.gathered.system k.is_overlap) (come (triple o ∷ t.rest) k.passes) in
      let few = h.few in
      let long = length-append offered (o ∷ []) in (
        rest,
        record {
          gathered = one_more sys s offered h.gathered t o e k;
          ahead = those;
          few = omega (arith, few, long, count);
        },
      )

  -- at the end all were offered
  pub ended : (t : Search) → IsDone s t → AreOverlaps sys offered
  ended t k = all_found sys s offered h.gathered t k

  -- where memory is refused it stands where it stood
  pub stays : (t : Search) → t.system ≡ s.system → DoesStay s t → IsUnderway sys t offered later
  stays t e k =
      let g = h.gathered in
      record {
        gathered =
            record {
              system = e ∙ g.system;
              earlier = g.earlier ++ k.passes.passed;
              split = g.split ∙ (ap (λ z. g.earlier ++ z) k.passes.split ∙ sym (append_assoc g.earlier k.passes.passed t.rest));
              those = subst (AreThose sys (g.earlier ++ k.passes.passed)) (append-nil offered)
                  (those_append sys g.earlier k.passes.passed offered [] g.those (none_there sys k.passes.passed (clashes t.rest k.passes)));
              counted = k.counted ∙ g.counted;
              few = subst (λ z. z ≤ 20000) (sym k.counted) g.few;
            };
        ahead = come t.rest k.passes;
        few = h.few;
      }

  -- nothing but memory is refused
  pub only_memory : (e : OverlapError) → IsRefused s e → e ≡ NoMemory
  only_memory (PairTooLarge i p j) k = absurd (overlaps_or_large sys (offered ++ later) i p.items j all_of (list_refused sys s offered h.gathered (PairTooLarge i p j) k))
  only_memory TooManyPairs k = absurd (overlaps_or_many sys (offered ++ later) all_of (list_refused sys s offered h.gathered TooManyPairs k))
  only_memory NoMemory k = refl
