-- Where a certificate settles all overlaps, each overlap is listed with its critical pair, and has valid evidence.
use Rattle.std.proofs.Common.{◌≡◌, ◌⊎◌, inl, inr, ℕ, List, [], ◌∷◌, Option, Some, None, sym, ap, ◌∙◌, subst, length}
use Rattle.rewriting.specs.Prelude.{Position, subterm, IsOverlap, IsCriticalPair, IsAmong}
use Rattle.rewriting.proofs.Common.{nil, cons, System, rule_at, apply, even, odd}
use Rattle.unifier_run.specs.Run.{Binding, value, unifier, clash}
use Rattle.unifier_run.specs.Overlaps.{Overlap, triple, IsOutcomeOf, DoesPairFit, IsOverlapOf}
use Rattle.unifier_run.proofs.General.{no_unifier}
use Rattle.certificates.specs.Prelude.{PairEntry, PairEvidence}
use Rattle.valid_certificates.specs.Kinds.{Kind}
use Rattle.valid_certificates.specs.PairEvidence.{IsPairJudged}
use Rattle.valid_certificates.specs.Entries.{AreSettled, DoSettle}

-- the overlap stands in the list of overlaps, with the critical pair under the run's unifier, and its evidence is valid
pub record SettledOverlap (kind : Kind) (sys : System) (i : ℕ) (p : Position) (j : ℕ) (o : IsOverlap sys i p j) : Type 0 where
  pub listed : Overlap
  pub evidence : PairEvidence
  pub by : List Binding
  pub is_inner : listed.inner ≡ i
  pub is_position : listed.position ≡ p
  pub is_outer : listed.outer ≡ j
  pub outcome : IsOutcomeOf o.inner.left o.part (unifier by)
  pub pair : IsCriticalPair (value by) p o.inner o.outer o.part listed.pair
  pub fits : DoesPairFit listed.pair
  pub counted : listed.inner_conditions ≡ length o.inner.conditions
  pub judged : IsPairJudged kind sys listed evidence None

-- each listed overlap has valid evidence
judged_in : (kind : Kind) (sys : System) (os : List Overlap) (es : List PairEntry) → AreSettled kind sys os es → (o : Overlap) → IsAmong o os
    → (e : PairEvidence) × IsPairJudged kind sys o e None
judged_in kind sys [] es h o l = absurd l
judged_in kind sys (q ∷ os) [] h o l = absurd h
judged_in kind sys (q ∷ os) (e ∷ es) h o (inl is) = subst (λ x. (i : PairEvidence) × IsPairJudged kind sys x i None) (sym is) (e.evidence, h.1)
judged_in kind sys (q ∷ os) (e ∷ es) h o (inr l) = judged_in kind sys os es h.2 o l

some_once : {A : Type 0} (a b : A) (o q : Option A) → o ≡ Some a → q ≡ Some b → o ≡ q → a ≡ b
some_once a b o q e f same = cc

-- what the list says of an overlap is said of its rules and part, since numbers and positions have one
settled_by : (kind : Kind) (sys : System) (i : ℕ) (p : Position) (j : ℕ) (o : IsOverlap sys i p j) (q : Overlap)
    → q.inner ≡ i → q.position ≡ p → q.outer ≡ j → IsOverlapOf sys q → (e : PairEvidence) → IsPairJudged kind sys q e None → SettledOverlap kind sys i p j o
settled_by kind sys i p j o q at_inner at_position at_outer is e judged =
    let inner_same : is.inner ≡ o.inner = some_once is.inner o.inner (rule_at sys q.inner) (rule_at sys i) is.place.is_inner o.place.is_inner (ap (rule_at sys) at_inner) in
    let outer_same : is.outer ≡ o.outer = some_once is.outer o.outer (rule_at sys q.outer) (rule_at sys j) is.place.is_outer o.place.is_outer (ap (rule_at sys) at_outer) in
    let part_same : is.part ≡ o.part =
    some_once is.part o.part (subterm is.outer.left q.position) (subterm o.outer.left p) is.place.is_part o.place.is_part
    (ap (λ r. subterm r.left q.position) outer_same ∙ ap (subterm o.outer.left) at_position) in
    record {
      listed = q;
      evidence = e;
      by = is.by;
      is_inner = at_inner;
      is_position = at_position;
      is_outer = at_outer;
      outcome = subst (λ r. IsOutcomeOf r.left o.part (unifier is.by)) inner_same (subst (λ t. IsOutcomeOf is.inner.left t (unifier is.by)) part_same is.outcome);
      pair =
          subst (λ x. IsCriticalPair (value is.by) x o.inner o.outer o.part q.pair) at_position
          (subst (λ r. IsCriticalPair (value is.by) q.position r o.outer o.part q.pair) inner_same
          (subst (λ r. IsCriticalPair (value is.by) q.position is.inner r o.part q.pair) outer_same
          (subst (λ t. IsCriticalPair (value is.by) q.position is.inner is.outer t q.pair) part_same is.pair)));
      fits = is.fits;
      counted = is.counted ∙ ap (λ r. length r.conditions) inner_same;
      judged = judged;
    }

pub settled : (kind : Kind) (sys : System) (es : List PairEntry) → DoSettle kind sys es → (i : ℕ) (p : Position) (j : ℕ) (o : IsOverlap sys i p j) → SettledOverlap kind sys i p j o
settled kind sys es (os, all, entries) i p j o = go (all.are.whole i p j o.inner o.outer o.part o.place tt)
  where
    go : IsOutcomeOf o.inner.left o.part clash ⊎ ((q : Overlap) × IsAmong q os × (triple q ≡ (i, (p, j)))) → SettledOverlap kind sys i p j o
    go (inl clashes) =
        absurd (no_unifier (cons (apply even o.inner.left) nil) (cons (apply odd o.part) nil) clashes o.unifiable.0 (ap (λ z. cons z nil) o.unifiable.1))
    go (inr (q, l, e)) =
        let k = judged_in kind sys os es entries q l in
        settled_by kind sys i p j o q (ap (λ t. t.0) e) (ap (λ t. t.1.0) e) (ap (λ t. t.1.1) e) (all.are.each q l).0 k.0 k.1
