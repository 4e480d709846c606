-- What the peak space finds is valid, and where it finds nothing, none of its certificates is; what a search of it may answer.
use Rattle.std.proofs.Common.{ℕ, ◌≡◌, ◌<◌, ◌≤◌, inl, inr, List, [], ◌∷◌, ◌++◌, map, refl, sym, ap, ◌∙◌, subst, arith}
use Rattle.rewriting.specs.Prelude.{IsAmong, System, Term}
use Rattle.rewriting.proofs.Lists.{among_middle}
use Rattle.certificates.specs.Certificates.{Certificate}
use Rattle.cops_names.specs.NameTable.{NameTable}
use Rattle.valid_certificates.specs.Certificates.{IsValid}
use Rattle.unifier_run.specs.Overlaps.{Overlap, AreOverlaps}
use Rattle.valid_certificates.proofs.OneOverlaps.{overlaps_once}
use Rattle.first_found.specs.Items.{NoneGives, GivesNothing, cost_of, IsFirst, IsStopped}
use Rattle.first_found.specs.Spaces.{IsSearched, IsBarren, IsDearer, CostsOnce, HasCost, FindsOnce, MayEndExactly, found, nothing, spent}
use Rattle.first_found.proofs.Items.{none_of_no_first, first_once, first_within, not_both, stopped_before, stopped_within}
use Rattle.search_spaces.specs.PeakItems.{PeakItem, peak_item_cost, peak_items, GivesPeak}
use Rattle.search_spaces.specs.Peak.{AreStarts, ArePeakItems, IsPeakHeld, IsPeakFound, IsPeakCost, peak_space}
use Rattle.search_spaces.proofs.PeakOnce.{peak_once}

pub none_member : {A B : Type 0} (Gives : A → B → Type 0) (items : List A) (a : A) → NoneGives Gives items → IsAmong a items → GivesNothing Gives a
none_member Gives [] a h k = absurd k
none_member Gives (x ∷ items) a (h, hs) (inl e) = subst (GivesNothing Gives) (sym e) h
none_member Gives (x ∷ items) a (h, hs) (inr k) = none_member Gives items a hs k

module _ (names : NameTable) (sys : System) where
  held_valid : (c : Certificate) (n : ℕ) → IsPeakFound names sys c n → IsPeakHeld names sys c × IsValid sys c
  held_valid c n f = (
    record {
      items = f.items;
      are = f.are;
      item = f.first.item;
      listed = subst (IsAmong f.first.item) (sym f.first.split) (among_middle f.first.item f.first.before f.first.behind);
      holds = f.first.gives.0;
    },
    f.first.gives.1,
  )

  none_valid : IsBarren (peak_space names sys) → (c : Certificate) → IsPeakHeld names sys c → IsValid sys c → ⊥
  none_valid b c h valid =
      none_member (GivesPeak names sys) h.items h.item
      (none_of_no_first (GivesPeak names sys) peak_item_cost h.items (λ d n f. b d n (record { items = h.items; are = h.are; first = f }))) h.listed c (h.holds, valid)

  pub peak_searched : IsSearched (IsValid sys) (peak_space names sys)
  peak_searched = record { held = held_valid; barren = none_valid }

  -- the starts are one list, and so are the items
  starts_once : (ts us : List Term) → AreStarts sys ts → AreStarts sys us → ts ≡ us
  starts_once ts us (inl (os, h, e)) (inl (qs, k, f)) =
      e ∙ ap (λ (z : List Overlap). map (λ r. r.left) sys.rules ++ map (λ o. o.pair.source) z) (overlaps_once sys os qs h k) ∙ sym f
  starts_once ts us (inl (os, h, e)) (inr (none, f)) = absurd (none os h)
  starts_once ts us (inr (none, e)) (inl (qs, k, f)) = absurd (none qs k)
  starts_once ts us (inr (none, e)) (inr (nor, f)) = e ∙ sym f

  items_once : (xs ys : List PeakItem) → ArePeakItems sys xs → ArePeakItems sys ys → xs ≡ ys
  items_once xs ys (ts, h, e) (us, k, f) = e ∙ ap (peak_items sys) (starts_once ts us h k) ∙ sym f

  pub peak_cost_once : CostsOnce (peak_space names sys)
  peak_cost_once a b (xs, h, e) (ys, k, f) = e ∙ ap (cost_of peak_item_cost) (items_once xs ys h k) ∙ sym f

  cost_of_starts : (ts : List Term) → AreStarts sys ts → IsPeakCost sys (cost_of peak_item_cost (peak_items sys ts))
  cost_of_starts ts h = (peak_items sys ts, (ts, h, refl), refl)

  pub peak_has_cost : HasCost (peak_space names sys)
  peak_has_cost none =
      let starts : List Overlap → List Term = λ os. map (λ r. r.left) sys.rules ++ map (λ o. o.pair.source) os in
      let refused : (os : List Overlap) → AreOverlaps sys os → ⊥ = λ os h. none (cost_of peak_item_cost (peak_items sys (starts os))) (cost_of_starts (starts os) (inl (os, h, refl))) in
      none (cost_of peak_item_cost (peak_items sys (map (λ r. r.left) sys.rules))) (cost_of_starts (map (λ r. r.left) sys.rules) (inr (refused, refl)))

  -- one certificate is found at most, at one price
  first_of : (items : List PeakItem) → ArePeakItems sys items → (c : Certificate) (n : ℕ) → IsPeakFound names sys c n → IsFirst peak_item_cost (GivesPeak names sys) items c n
  first_of items are c n f = subst (λ z. IsFirst peak_item_cost (GivesPeak names sys) z c n) (items_once f.items items f.are are) f.first

  pub peak_finds_once : FindsOnce (peak_space names sys)
  peak_finds_once c d n m f g =
      let same = first_once (GivesPeak names sys) peak_item_cost f.items c d n m f.first (first_of f.items f.are d m g) in
      (same.0, peak_once names sys same.1.0 c d same.1.1.0 same.1.2.0)

  pub peak_finds_within : (c : Certificate) (n m : ℕ) → IsPeakFound names sys c n → IsPeakCost sys m → n ≤ m
  peak_finds_within c n m f (items, are, e) = let most = first_within (GivesPeak names sys) peak_item_cost items c n (first_of items are c n f) in omega (arith, most, e)

  -- how a search of the items may end
  module _ (items : List PeakItem) (are : ArePeakItems sys items) where
    pub peak_ends_found : (left n : ℕ) (c : Certificate) → IsFirst peak_item_cost (GivesPeak names sys) items c n → MayEndExactly (peak_space names sys) left n (found c)
    peak_ends_found left n c f = record { items = items; are = are; first = f }

    pub peak_ends_none : (left : ℕ) → NoneGives (GivesPeak names sys) items → MayEndExactly (peak_space names sys) left (cost_of peak_item_cost items) nothing
    peak_ends_none left bare = (
      (λ c n f. not_both (GivesPeak names sys) peak_item_cost items c n bare (first_of items are c n f)),
      (cost_of peak_item_cost items, (items, are, refl), omega arith),
    )

    pub peak_ends_spent : (n : ℕ) → IsStopped peak_item_cost (GivesPeak names sys) items n → MayEndExactly (peak_space names sys) n n spent
    peak_ends_spent n s = (refl, dearer)
      where
        dearer : IsDearer (peak_space names sys) n
        dearer m (inl (c, f)) = stopped_before (GivesPeak names sys) peak_item_cost items c n m s (first_of items are c m f)
        dearer m (inr (b, x)) =
            subst (λ z. n < z) (peak_cost_once (cost_of peak_item_cost items) m (items, are, refl) x) (stopped_within (GivesPeak names sys) peak_item_cost items n s)
