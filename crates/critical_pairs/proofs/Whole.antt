-- The list of the overlaps that a search offers.
use Rattle.std.proofs.Common.{suc, ◌≡◌, ◌≤◌, List, [], ◌∷◌, ◌++◌, length, refl, sym, ap, ◌∙◌, subst, Err, append_assoc, inr, add-one}
use Rattle.std.proofs.lemmas.List.{append-nil, length_push}
use Rattle.rewriting.specs.Prelude.{System, IsEarlierOverlap, IsAmong}
use Rattle.unifier_run.specs.Overlaps.{Triple, Overlap, triple, IsOverlapOf, IsTooLargeAt, AreOverlapsAt, AreOverlaps}
use Rattle.unifier_run.proofs.Triples.{AreInOrder, AreThose, those_append, overlaps_at, overlaps_before}
use Rattle.unifier_run.proofs.Spots.{has_all, order_all}
use Rattle.unifier_run.specs.Triples.{all_triples, DoesClash}
use Rattle.critical_pairs.specs.Offers.{Search, DoesPass, IsNext, IsOffered, IsDone, IsRefused}
use Rattle.critical_pairs.specs.Answers.{OverlapsAnswers}
use Rattle.critical_pairs.specs.declared.OverlapError.{OverlapError}
use Rattle.critical_pairs.specs.declared.OverlapError.TheVariants.{PairTooLarge, TooManyPairs, NoMemory}
use Rattle.critical_pairs.proofs.Passing.{none_there}

-- a list of the overlaps that were offered
pub record Gathered (sys : System) (s : Search) (os : List Overlap) : Type 0 where
  pub system : s.system ≡ sys
  pub earlier : List Triple
  pub split : all_triples sys ≡ earlier ++ s.rest
  pub those : AreThose sys earlier os
  pub counted : s.offered ≡ length os
  pub few : s.offered ≤ 20000

module _ (sys : System) (s : Search) (os : List Overlap) (g : Gathered sys s os) where
  further : (later : List Triple) (h : DoesPass s.system s.rest later) → all_triples sys ≡ (g.earlier ++ h.passed) ++ later
  further later h = g.split ∙ (ap (λ z. g.earlier ++ z) h.split ∙ sym (append_assoc g.earlier h.passed later))

  none_further : (later : List Triple) (h : DoesPass s.system s.rest later) → AreThose sys (g.earlier ++ h.passed) os
  none_further later h =
      subst (AreThose sys (g.earlier ++ h.passed)) (append-nil os)
      (those_append sys g.earlier h.passed os [] g.those (none_there sys h.passed (λ t m. subst (λ z. DoesClash z t) g.system (h.clash t m))))

  overlap_there : (o : Overlap) → IsOverlapOf s.system o → IsOverlapOf sys o
  overlap_there o h = subst (λ z. IsOverlapOf z o) g.system h

  pub none_more : (t : Search) → t.system ≡ s.system → t.offered ≡ s.offered → DoesPass s.system s.rest t.rest → Gathered sys t os
  none_more t e n h = record {
    system = e ∙ g.system;
    earlier = g.earlier ++ h.passed;
    split = further t.rest h;
    those = none_further t.rest h;
    counted = n ∙ g.counted;
    few = subst (λ z. z ≤ 20000) (sym n) g.few;
  }

  pub one_more : (t : Search) (o : Overlap) → t.system ≡ s.system → IsOffered s t o → Gathered sys t (os ++ o ∷ [])
  one_more t o e h =
      record {
        system = e ∙ g.system;
        earlier = (g.earlier ++ h.passes.passed) ++ triple o ∷ [];
        split = further _ h.passes ∙ sym (append_assoc (g.earlier ++ h.passes.passed) (triple o ∷ []) t.rest);
        those = those_append sys (g.earlier ++ h.passes.passed) (triple o ∷ []) os (o ∷ []) (none_further _ h.passes) (inr (o, [], refl, overlap_there o h.is_overlap, refl, refl));
        counted = h.counted ∙ (ap suc g.counted ∙ sym (length_push os o ∙ add-one (length os)));
        few = h.few;
      }

  pub all_found : (t : Search) → IsDone s t → AreOverlaps sys os
  all_found t h =
      let all : g.earlier ++ h.passes.passed ≡ all_triples sys = sym (append-nil (g.earlier ++ h.passes.passed)) ∙ sym (further [] h.passes) in
      record {
        are = overlaps_at sys (λ t. Unit {0}) (all_triples sys) os (order_all sys) (λ t m. tt) (λ i p j inner outer part place u. has_all sys i p j inner outer part place)
            (subst (λ z. AreThose sys z os) all (none_further [] h.passes));
        few = subst (λ z. z ≤ 20000) g.counted g.few;
      }

  found_before : (t : Triple) → IsNext s.system s.rest t → AreOverlapsAt sys (λ u. IsEarlierOverlap u t) os
  found_before t (later, h) =
      let split = further (t ∷ later) h in
      overlaps_before sys (g.earlier ++ h.passed) later t os (subst AreInOrder split (order_all sys))
      (λ a q b inner outer part place. subst (λ z. IsAmong (a, (q, b)) z) split (has_all sys a q b inner outer part place)) (none_further (t ∷ later) h)

  pub list_refused : (e : OverlapError) → IsRefused s e → OverlapsAnswers sys (Err e)
  list_refused (PairTooLarge i p j) (n, h) =
      record {
        is_large = subst (λ z. IsTooLargeAt z i p.items j) g.system h;
        before = os;
        are_before = found_before (i, (p.items, j)) n;
        few = subst (λ z. z ≤ 20000) g.counted g.few;
      }
  list_refused TooManyPairs h =
      record { next = h.further; is_overlap = overlap_there h.further h.is_overlap; before = os; are_before = found_before (triple h.further) h.is_next; many = sym g.counted ∙ h.many }
  list_refused NoMemory h = tt
