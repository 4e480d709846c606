-- The three spaces of a system have a whole cost, where each measure is tried.
use Rattle.std.proofs.Common.{ℕ, ◌≡◌, ◌+◌, ◌⊎◌, inl, inr, List, ◌++◌, map, length, refl}
use Rattle.rewriting.specs.Prelude.{System, EachRule, Term, Position}
use Rattle.unifier_run.specs.Overlaps.{Overlap, AreOverlaps, IsPairTooLarge, AreTooManyOverlaps}
use Rattle.unifier_run.proofs.Total.{overlaps_total}
use Rattle.certificates.specs.Prelude.{IsInClass, IsBlamed, Class, left_linear, type3, extended_oriented, right_stable, deterministic, Blame}
use Rattle.certificates.proofs.Blames.{blamed_outside}
use Rattle.certificates.proofs.ClassTotal.{class_total, sides_total, FirstSide}
use Rattle.unifier_run.specs.Irreducible.{DoAllClash}
use Rattle.unifier_run.proofs.Total.{all_clash_decided}
use Rattle.valid_certificates.specs.Confluence.{IsInOrthoClasses, AreRightSidesIrreducible}
use Rattle.valid_certificates.proofs.OneOverlaps.{overlaps_or_large, overlaps_or_many}
use Rattle.first_found.specs.Items.{cost_of}
use Rattle.quasi_space.specs.MeasureLists.{trials}
use Rattle.search_spaces.specs.PairItems.{ortho_items}
use Rattle.search_spaces.specs.PeakItems.{peak_item_cost, peak_items}
use Rattle.search_spaces.specs.Entries.{overlap_cost}
use Rattle.search_spaces.specs.Ortho.{IsOrthoCost}
use Rattle.search_spaces.specs.Peak.{IsPeakCost}
use Rattle.quasi_space.specs.Measures.{each_measure}
use Rattle.quasi_space.specs.Quasi.{IsQuasiCost, all_items_cost}
use Rattle.proof_spaces.specs.Laws.{SpacesHaveACost}

module _ (sys : System) where
  overlaps_or_none : ((os : List Overlap) × AreOverlaps sys os) ⊎ ((os : List Overlap) → AreOverlaps sys os → ⊥)
  overlaps_or_none = go (overlaps_total sys)
    where
      go : ((os : List Overlap) × AreOverlaps sys os) ⊎ (((i : ℕ) × (p : Position) × (j : ℕ) × IsPairTooLarge sys i p j) ⊎ AreTooManyOverlaps sys)
          → ((os : List Overlap) × AreOverlaps sys os) ⊎ ((os : List Overlap) → AreOverlaps sys os → ⊥)
      go (inl h) = inl h
      go (inr (inl (i, p, j, large))) = inr (λ os h. overlaps_or_large sys os i p j h large)
      go (inr (inr many)) = inr (λ os h. overlaps_or_many sys os h many)

  in_class_or_not : (class : Class) → EachRule sys (IsInClass sys class) ⊎ (EachRule sys (IsInClass sys class) → ⊥)
  in_class_or_not class = go (class_total sys class)
    where
      go : EachRule sys (IsInClass sys class) ⊎ ((blame : Blame) × (blame.class ≡ class) × IsBlamed sys blame) → EachRule sys (IsInClass sys class) ⊎ (EachRule sys (IsInClass sys class) → ⊥)
      go (inl h) = inl h
      go (inr (blame, e, h)) = inr (blamed_outside sys class blame h e)

  in_classes_or_not : IsInOrthoClasses sys ⊎ (IsInOrthoClasses sys → ⊥)
  in_classes_or_not = go (in_class_or_not left_linear) (in_class_or_not type3) (in_class_or_not extended_oriented) (in_class_or_not right_stable)
    where
      go : EachRule sys (IsInClass sys left_linear) ⊎ (EachRule sys (IsInClass sys left_linear) → ⊥) → EachRule sys (IsInClass sys type3) ⊎ (EachRule sys (IsInClass sys type3) → ⊥)
          → EachRule sys (IsInClass sys extended_oriented) ⊎ (EachRule sys (IsInClass sys extended_oriented) → ⊥)
          → EachRule sys (IsInClass sys right_stable) ⊎ (EachRule sys (IsInClass sys right_stable) → ⊥) → IsInOrthoClasses sys ⊎ (IsInOrthoClasses sys → ⊥)
      go (inl a) (inl b) (inl c) (inl d) = inl (record { left_linear = a; type3 = b; oriented = c; right_stable = d })
      go (inr n) b c d = inr (λ h. n h.left_linear)
      go (inl a) (inr n) c d = inr (λ h. n h.type3)
      go (inl a) (inl b) (inr n) d = inr (λ h. n h.oriented)
      go (inl a) (inl b) (inl c) (inr n) = inr (λ h. n h.right_stable)

  irreducible_or_not : AreRightSidesIrreducible sys ⊎ (AreRightSidesIrreducible sys → ⊥)
  irreducible_or_not = go (sides_total (DoAllClash sys) (all_clash_decided sys) sys)
    where
      go : AreRightSidesIrreducible sys ⊎ FirstSide (DoAllClash sys) sys → AreRightSidesIrreducible sys ⊎ (AreRightSidesIrreducible sys → ⊥)
      go (inl h) = inl h
      go (inr f) = inr (λ h. f.fails (h f.number f.rule f.place f.condition f.is_rule f.is_condition))

  pub ortho_cost : (n : ℕ) × IsOrthoCost sys n
  ortho_cost = go in_classes_or_not overlaps_or_none
    where
      go : IsInOrthoClasses sys ⊎ (IsInOrthoClasses sys → ⊥) → ((os : List Overlap) × AreOverlaps sys os) ⊎ ((os : List Overlap) → AreOverlaps sys os → ⊥) → (n : ℕ) × IsOrthoCost sys n
      go (inl a) (inl (os, h)) = (cost_of (overlap_cost ortho_items) os, inl (os, record { classes = a; overlaps = h }, refl))
      go (inr n) o = (0, inr ((λ os h. n h.classes), refl))
      go (inl a) (inr n) = (0, inr ((λ os h. n os h.overlaps), refl))

  pub peak_cost : (n : ℕ) × IsPeakCost sys n
  peak_cost = go overlaps_or_none
    where
      starts : List Overlap → List Term
      starts os = map (λ r. r.left) sys.rules ++ map (λ o. o.pair.source) os

      go : ((os : List Overlap) × AreOverlaps sys os) ⊎ ((os : List Overlap) → AreOverlaps sys os → ⊥) → (n : ℕ) × IsPeakCost sys n
      go (inl (os, h)) = (cost_of peak_item_cost (peak_items sys (starts os)), (peak_items sys (starts os), (starts os, inl (os, h, refl), refl), refl))
      go (inr none) = (
        cost_of peak_item_cost (peak_items sys (map (λ r. r.left) sys.rules)),
        (peak_items sys (map (λ r. r.left) sys.rules), (map (λ r. r.left) sys.rules, inr (none, refl), refl), refl),
      )

  pub quasi_cost : (n : ℕ) × IsQuasiCost (each_measure sys) sys n
  quasi_cost = go (in_class_or_not deterministic) irreducible_or_not overlaps_or_none
    where
      go : EachRule sys (IsInClass sys deterministic) ⊎ (EachRule sys (IsInClass sys deterministic) → ⊥) → AreRightSidesIrreducible sys ⊎ (AreRightSidesIrreducible sys → ⊥)
          → ((os : List Overlap) × AreOverlaps sys os) ⊎ ((os : List Overlap) → AreOverlaps sys os → ⊥) → (n : ℕ) × IsQuasiCost (each_measure sys) sys n
      go (inl a) (inl b) (inl (os, h)) =
          (all_items_cost sys os + length (trials sys), inl (os, record { deterministic = a; irreducible = b; overlaps = h }, (length (trials sys), refl, refl)))
      go (inr n) b o = (0, inr ((λ os h. n h.deterministic), refl))
      go (inl a) (inr n) o = (0, inr ((λ os h. n h.irreducible), refl))
      go (inl a) (inl b) (inr n) = (0, inr ((λ os h. n os h.overlaps), refl))

pub spaces_cost : SpacesHaveACost
spaces_cost names sys =
    let a = ortho_cost sys in let b = peak_cost sys in let c = quasi_cost sys in
    (a.0 + b.0 + c.0, (a.0 + b.0, c.0, (a.0, b.0, a.1, b.1, refl), c.1, refl))
