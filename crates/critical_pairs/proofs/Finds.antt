-- What is found where a cursor stands.
use Rattle.std.proofs.Common.{ℕ, suc, ◌≡◌, ◌∷◌, refl, sym, ap₂, ◌∙◌, subst}
use Rattle.rewriting.specs.Prelude.{Bindings, System, IsSystem}
use Rattle.unifier_run.specs.Overlaps.{Triple, Overlap, triple, IsOverlapOf, IsTooLargeAt}
use Rattle.unifier_run.specs.Triples.{DoesClash}
use Rattle.critical_pairs.specs.Offers.{Search, DoesPass, IsNext, IsOffered, IsBeyond, IsRefused}
use Rattle.critical_pairs.specs.Cursors.{rest_of, IsCursor, StandsBefore, IsTripleAt}
use Rattle.critical_pairs.specs.Finding.{StandsAt, IsFound, IsRefusedThere, IsCounted}
use Rattle.critical_pairs.specs.Spots.{IsSpotOf, IsUnifierAt, IsOverlapAt, IsRefusedAt}
use Rattle.critical_pairs.specs.declared.pairs.Triple as Named
use Rattle.critical_pairs.specs.declared.cursor.Cursor.{Cursor}
use Rattle.critical_pairs.specs.declared.OverlapError.{OverlapError}
use Rattle.critical_pairs.specs.declared.OverlapError.TheVariants.{PairTooLarge, TooManyPairs, NoMemory}
use Rattle.critical_pairs.proofs.Passing.{pass_more}
use Rattle.critical_pairs.proofs.Rests.{next_there, spot_there}

module _ (sys : System) (c : Cursor) (i : ℕ) (s : StandsBefore sys c i) (t : Named.Triple) (is : IsTripleAt c i t) where
  pub same : ◌≡◌ {A = Triple} (t.inner, (t.pos.now, t.outer)) (i, (s.at.0, c.outer))
  same = ap₂ (λ x y. (x, y)) is.inner (ap₂ (λ x y. (x, y)) (is.position s.at s.is_place) is.outer)

  pub spot_here : IsSystem sys → IsCursor sys c → IsSpotOf sys t.inner t.pos.now t.outer
  spot_here h k = subst (λ z. IsSpotOf sys z.0 z.1.0 z.1.1) (sym same) (spot_there sys h c c i k s)

  pub clash_here : DoesClash sys (t.inner, (t.pos.now, t.outer)) → DoesClash sys (i, (s.at.0, c.outer))
  clash_here h = subst (DoesClash sys) same h

  pub found_here : (m : Bindings) → IsUnifierAt sys t.inner t.pos.now t.outer m → IsFound sys c (record { inner = i; unifier = m })
  found_here m h = record { stands = s; unifier = subst (λ z. IsUnifierAt sys z.0 z.1.0 z.1.1 m) same h }

  pub overlap_here : (o : Overlap) → IsOverlapAt sys t.inner t.pos.now t.outer o → IsOverlapOf sys o × StandsAt sys c (triple o)
  overlap_here o h = (h.0, record { inner = i; stands = s; is_triple = h.1 ∙ same })

  pub refused_here : (e : OverlapError) → IsRefusedAt sys t.inner t.pos.now t.outer e → IsRefusedThere sys c e
  refused_here (PairTooLarge k q l) (large, (a, b, d)) =
      let there : ◌≡◌ {A = Triple} (k, (q.items, l)) (t.inner, (t.pos.now, t.outer)) = ap₂ (λ x y. (x, y)) a (ap₂ (λ x y. (x, y)) b d) in
      (subst (λ z. IsTooLargeAt sys z.0 z.1.0 z.1.1) (sym there) large, record { inner = i; stands = s; is_triple = there ∙ same })
  refused_here TooManyPairs h = h
  refused_here NoMemory h = tt

-- what is offered, or refused, where a search went on from the cursor b to c
module _ (sys : System) (h : IsSystem sys) (b c : Cursor) (n : ℕ) (before : Search) (e : record { system = sys; rest = rest_of sys b; offered = n } ≡ before) (is : IsCursor sys c)
    (passes : DoesPass sys (rest_of sys b) (rest_of sys c)) where
  -- behind the triple there
  on : (d : Cursor) → d.outer ≡ c.outer → d.places ≡ c.places → d.place ≡ c.place → d.candidate ≡ suc c.candidate → (t : Triple) → StandsAt sys c t → DoesPass sys (rest_of sys b) (t ∷ rest_of sys d)
  on d o ps k i t at =
      pass_more sys (rest_of sys b) (rest_of sys c) (t ∷ rest_of sys d) passes
      (subst (λ z. DoesPass sys (rest_of sys c) (z ∷ rest_of sys d)) (sym at.is_triple) (next_there sys h c d at.inner is at.stands o ps k i))

  next : (t : Triple) → StandsAt sys c t → IsNext sys (rest_of sys b) t
  next t at =
      let d : Cursor = record { outer = c.outer; places = c.places; place = c.place; candidate = suc c.candidate } in
      (rest_of sys d, on d refl refl refl refl t at)

  pub offer : (d : Cursor) (m : ℕ) (o : Overlap) → IsCounted c n d m → IsOverlapOf sys o × StandsAt sys c (triple o) → IsOffered before (record { system = sys; rest = rest_of sys d; offered = m }) o
  offer d m o k (is_overlap, at) =
      subst (λ z. IsOffered z (record { system = sys; rest = rest_of sys d; offered = m }) o) e
      (record { is_overlap = is_overlap; passes = on d k.outer k.places k.place k.candidate (triple o) at; counted = k.counted; few = k.few })

  pub beyond : (o : Overlap) (x : OverlapError) → x ≡ TooManyPairs → n ≡ 20000 → IsOverlapOf sys o × StandsAt sys c (triple o) → IsRefused before x
  beyond o x is many (is_overlap, at) =
      subst (IsRefused before) (sym is) (subst IsBeyond e (record { further = o; is_overlap = is_overlap; is_next = next (triple o) at; many = many }))

  pub no_offer : (x : OverlapError) → IsRefusedThere sys c x → IsRefused before x
  no_offer (PairTooLarge i p j) (large, at) = subst (λ z. IsRefused z (PairTooLarge i p j)) e (next (i, (p.items, j)) at, large)
  no_offer TooManyPairs none = absurd none
  no_offer NoMemory none = tt
