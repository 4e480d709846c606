-- Both ways to try measures find the first good one; the pruned one takes no more units.
use Rattle.std.proofs.Common.{ℕ, ◌≡◌, ◌≤◌, inl, inr, refl, sym, ◌∙◌, subst, arith, length}
use Rattle.rewriting.specs.Rules.{System}
use Rattle.certificates.specs.Certificates.{MeasureCertificate}
use Rattle.interpretations.specs.Judgement.{good}
use Rattle.valid_certificates.specs.Certificates.{IsMeasureJudged}
use Rattle.first_found.specs.Items.{IsFirst, one}
use Rattle.first_found.proofs.Items.{first_once, first_within, not_both, cost_of_ones}
use Rattle.quasi_space.specs.MeasureLists.{Trial, try_interpretation, try_precedence, trials, GivesMeasure}
use Rattle.quasi_space.specs.PrunedMeasures.{IsPrunedFirst, IsPrunedWhole}
use Rattle.quasi_space.proofs.PrunedMeasures.{firsts_are, barren_is, comes_to_one, ends_once}
use Rattle.quasi_space.specs.Measures.{MeasureTrials, each_measure, pruned_measures}

-- what is found first is good and one, and the units are at most those of the whole, which are one number
pub record AreTrials (sys : System) (by : MeasureTrials) : Type 0 where
  pub found_good : (m : MeasureCertificate) (n : ℕ) → by.First m n → IsMeasureJudged sys m good
  pub found_once : (m k : MeasureCertificate) (i j : ℕ) → by.First m i → by.First k j → (i ≡ j) × (m ≡ k)
  pub all_once : (i j : ℕ) → by.All i → by.All j → i ≡ j
  pub not_none : ((n : ℕ) → by.All n → ⊥) → ⊥
  pub within : (m : MeasureCertificate) (i j : ℕ) → by.First m i → by.All j → i ≤ j

module _ (sys : System) where
  measure_good : (t : Trial) (m : MeasureCertificate) → GivesMeasure sys t m → IsMeasureJudged sys m good
  measure_good (try_interpretation es) m (is, j) = subst (λ z. IsMeasureJudged sys z good) (sym is) j
  measure_good (try_precedence order) m (is, j) = subst (λ z. IsMeasureJudged sys z good) (sym is) j

  one_measure : (t : Trial) (m k : MeasureCertificate) → GivesMeasure sys t m → GivesMeasure sys t k → m ≡ k
  one_measure (try_interpretation es) m k (is, j) (other, h) = is ∙ sym other
  one_measure (try_precedence order) m k (is, j) (other, h) = is ∙ sym other

  grid_once : (m k : MeasureCertificate) (i j : ℕ) → IsFirst one (GivesMeasure sys) (trials sys) m i → IsFirst one (GivesMeasure sys) (trials sys) k j → (i ≡ j) × (m ≡ k)
  grid_once m k i j f g = let same = first_once (GivesMeasure sys) one (trials sys) m k i j f g in (same.0, one_measure same.1.0 m k same.1.1 same.1.2)

  grid_within : (m : MeasureCertificate) (i : ℕ) → IsFirst one (GivesMeasure sys) (trials sys) m i → i ≤ length (trials sys)
  grid_within m i f =
      let most = first_within (GivesMeasure sys) one (trials sys) m i f in let all = cost_of_ones (trials sys) in omega (arith, most, all)

  pub each_tried : AreTrials sys (each_measure sys)
  each_tried =
      record {
        found_good = λ m n f. measure_good f.item m f.gives;
        found_once = grid_once;
        all_once = λ i j a b. a ∙ sym b;
        not_none = λ none. none (length (trials sys)) refl;
        within = λ m i j f a. (let most = grid_within m i f in omega (arith, most, a));
      }

  pruned_within : (m : MeasureCertificate) (i j : ℕ) → IsPrunedFirst sys m i → IsPrunedWhole sys j → i ≤ j
  pruned_within m i j f (inl (k, g)) = let same = ((comes_to_one sys).first_once m k i j f g).0 in omega (arith, same)
  pruned_within m i j f (inr h) = absurd ((comes_to_one sys).first_or_barren m j i h f)

  pub pruned_tried : AreTrials sys (pruned_measures sys)
  pruned_tried =
      record {
        found_good = λ m n f. measure_good (firsts_are sys m n f).1.item m (firsts_are sys m n f).1.gives;
        found_once = (comes_to_one sys).first_once;
        all_once = (ends_once sys).one_at_most;
        not_none = (ends_once sys).not_none;
        within = pruned_within;
      }

  -- the units of the pruned grid are at most the size of the grid
  pub whole_within : (n : ℕ) → IsPrunedWhole sys n → n ≤ length (trials sys)
  whole_within n (inl (m, f)) =
      let at = firsts_are sys m n f in
      let most = at.2 in
      let all = grid_within m at.0 at.1 in omega (arith, most, all)
  whole_within n (inr h) = (barren_is sys n h).1

  -- where the grid has a first, the pruned grid comes to that, and no later
  pub same_first : (m : MeasureCertificate) (k n : ℕ) → IsFirst one (GivesMeasure sys) (trials sys) m k → IsPrunedWhole sys n → IsPrunedFirst sys m n × (n ≤ k)
  same_first m k n f (inl (l, g)) =
      let at = firsts_are sys l n g in
      let same = grid_once m l k at.0 f at.1 in
      let units = same.0 in
      let most = at.2 in (subst (λ z. IsPrunedFirst sys z n) (sym same.1) g, omega (arith, units, most))
  same_first m k n f (inr h) = absurd (not_both (GivesMeasure sys) one (trials sys) m k (barren_is sys n h).0 f)
