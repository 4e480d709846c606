-- What is kept of an earlier list of overlaps, and what is taken of it at a triple.
use Rattle.std.proofs.Common.{ℕ, ◌≡◌, List, [], ◌∷◌, ◌++◌, map, flat_map, Option, Some, None, Ok, inl, refl, sym, ap, ◌∙◌, subst}
use Rattle.std.proofs.lemmas.List.{append-nil, map-append}
use Rattle.std.proofs.lemmas.List.Concat.{flat_map-append}
use Rattle.rewriting.specs.Prelude.{Position, System}
use Rattle.unifier_run.specs.Overlaps.{Triple, Overlap, triple}
use Rattle.unifier_run.specs.Triples.{all_triples, DoesClash}
use Rattle.unifier_run.proofs.Spots.{order_all}
use Rattle.critical_pairs.specs.Spots.{SpotAnswers}
use Rattle.critical_pairs.specs.View.{overlap_view}
use Rattle.critical_pairs.specs.Kept.{AreKnown, AreNumbersNow, renumbered, IsOld, AreKept, TakeAnswers}
use Rattle.critical_pairs.specs.declared.Overlap as Made
use Rattle.critical_pairs.specs.declared.kept.Kept.{Kept}
use Rattle.critical_pairs.proofs.Passing.{pass_none, pass_one}
use Rattle.critical_pairs.proofs.OldTriples.{Ahead, kept_overlaps, ahead_passed, ahead_taken, next_clashes}

-- one more of the earlier list
pub next_kept : (now : List (Option ℕ)) (kept done : List Made.Overlap) (o : Made.Overlap) → map overlap_view kept ≡ flat_map (renumbered now) (map overlap_view done)
    → (after : List Made.Overlap) → map overlap_view after ≡ map overlap_view kept ++ renumbered now (overlap_view o) → map overlap_view after ≡ flat_map (renumbered now)
    (map overlap_view (done ++ o ∷ []))
next_kept now kept done o h after e =
    e ∙ (ap (λ z. z ++ renumbered now (overlap_view o)) h
    ∙ (ap (λ z. flat_map (renumbered now) (map overlap_view done) ++ z) (sym (append-nil (renumbered now (overlap_view o))))
    ∙ (sym (flat_map-append (renumbered now) (map overlap_view done) (overlap_view o ∷ [])) ∙ ap (flat_map (renumbered now)) (sym (map-append overlap_view done (o ∷ []))))))

-- all of it
pub all_kept : (e sys : System) (os now : List (Option ℕ)) (known : List Made.Overlap) (k : Kept) → AreKnown e sys os (map overlap_view known) → AreNumbersNow os now
    → k.origins.now ≡ os → map overlap_view k.overlaps.items ≡ flat_map (renumbered now) (map overlap_view known) → AreKept sys (all_triples sys) k
all_kept e sys os now known k are inverse origins made =
    record {
      order = order_all sys;
      overlaps =
          subst (λ z. Ahead sys z (all_triples sys) (map overlap_view k.overlaps.items)) (sym origins)
          (subst (Ahead sys os (all_triples sys)) (sym made) (kept_overlaps e sys os now are.origins_are inverse (map overlap_view known) are.overlaps_are));
    }

-- at an old triple
module _ (sys : System) (i : ℕ) (p : Position) (j : ℕ) (later : List Triple) (before after : Kept) (same : after.origins ≡ before.origins)
    (old : IsOld before.origins.now (i, (p, j))) (h : AreKept sys ((i, (p, j)) ∷ later) before) where
  none_there : ((o : Made.Overlap) (os : List Made.Overlap) → before.overlaps.items ≡ o ∷ os → triple (overlap_view o) ≡ (i, (p, j)) → ⊥) → DoesClash sys (i, (p, j))
  none_there none = next_clashes sys before.origins.now (i, (p, j)) later h.order old (map overlap_view before.overlaps.items) h.overlaps (λ o rest e. first before.overlaps.items none o rest e)
    where
      first : (os : List Made.Overlap) → ((o : Made.Overlap) (rest : List Made.Overlap) → os ≡ o ∷ rest → triple (overlap_view o) ≡ (i, (p, j)) → ⊥)
          → (q : Overlap) (rest : List Overlap) → map overlap_view os ≡ q ∷ rest → triple q ≡ (i, (p, j)) → ⊥
      first [] none q rest e at = cc
      first (o ∷ os) none q rest e at = none o os refl (let s : overlap_view o ≡ q = cc in ap triple s ∙ at)

  pub taken_there : (r : Option Made.Overlap) → TakeAnswers (i, (p, j)) before.overlaps.items after.overlaps.items r → SpotAnswers sys i p j (Ok r)
  taken_there (Some o) (is, at) = (((subst (λ z. Ahead sys before.origins.now ((i, (p, j)) ∷ later) (map overlap_view z)) is h.overlaps).each (overlap_view o) (inl refl)).0, at)
  taken_there None (is, none) = none_there none

  pub kept_behind : (r : Option Made.Overlap) → TakeAnswers (i, (p, j)) before.overlaps.items after.overlaps.items r → AreKept sys later after
  kept_behind (Some o) (is, at) =
      record {
        order = h.order.1;
        overlaps =
            subst (λ z. Ahead sys z.now later (map overlap_view after.overlaps.items)) (sym same)
            (ahead_taken sys before.origins.now (i, (p, j)) later h.order (overlap_view o) (map overlap_view after.overlaps.items) at
            (subst (λ z. Ahead sys before.origins.now ((i, (p, j)) ∷ later) (map overlap_view z)) is h.overlaps));
      }
  kept_behind None (is, none) =
      record {
        order = h.order.1;
        overlaps =
            subst (λ z. Ahead sys z.now later (map overlap_view after.overlaps.items)) (sym same)
            (subst (λ z. Ahead sys before.origins.now later (map overlap_view z)) (sym is)
            (ahead_passed sys before.origins.now ((i, (p, j)) ∷ later) later (map overlap_view before.overlaps.items)
            (pass_one sys ((i, (p, j)) ∷ later) later (i, (p, j)) (pass_none sys ((i, (p, j)) ∷ later)) (none_there none)) h.overlaps));
      }
