-- The search of the grid, and then of the precedences, as one search for a measure.
use Rattle.std.proofs.Common.{ℕ, ◌+◌, ◌≤◌, inl, inr, Result, Ok, Err, refl, arith}
use Rattle.rewriting.specs.Rules.{System}
use Rattle.certificates.specs.Certificates.{MeasureCertificate}
use Rattle.interpretations.specs.Size.{DoesUnravelingFit}
use Rattle.term_core.specs.declared.terms.NoMemory.{NoMemory}
use Rattle.cc_count.specs.Counts.{Counts, Spends}
use Rattle.cc_count.proofs.Spending.{spends_both}
use Rattle.measure_grid.specs.Pruned as grid
use Rattle.measure_grid.proofs.Pruned as of_grid
use Rattle.precedence_walks.specs.Pruned as path
use Rattle.precedence_walks.proofs.Pruned as of_path
use Rattle.quasi_space.specs.PrunedMeasures.{IsPrunedFirst, IsPrunedWhole}
use Rattle.grid_search.specs.Answers as grid_search
use Rattle.precedence_search.specs.Answers as path_search
use Rattle.quasi_search.specs.MeasureTrials.{IsNoneGood, AreTooFew, MeasureAnswers, PrecedenceAnswers}
use Rattle.cert_model.specs.declared.model.MeasureCert.{MeasureCert}
use Rattle.cc_count.specs.declared.Sought.{Sought}
use Rattle.cc_count.specs.declared.Sought.TheVariants.{Found, Nothing, Spent}

module _ (sys : System) where
  grid_fits : (m : MeasureCertificate) (k : ℕ) → grid.IsPrunedFirst sys m k → DoesUnravelingFit sys
  grid_fits m k f = (of_grid.firsts_are sys m k f).1.gives.1.0

  path_fits : (m : MeasureCertificate) (k : ℕ) → path.IsPrunedFirst sys m k → DoesUnravelingFit sys
  path_fits m k f = (of_path.firsts_are sys m k f).1.gives.1.0

  -- where the grid stopped, the whole goes on
  pub grid_stops : (n : ℕ) → grid.PrunedStops sys n → AreTooFew sys n
  grid_stops n stops k (inl (m, inl f)) = of_grid.stops_before_whole sys n k stops (inl (m, f))
  grid_stops n stops k (inl (m, inr (i, j, barren, f, sum))) = let less = of_grid.stops_before_whole sys n i stops (inr barren) in omega (arith, less, sum)
  grid_stops n stops k (inr (i, j, barren, none, sum)) = let less = of_grid.stops_before_whole sys n i stops (inr barren) in omega (arith, less, sum)

  -- n units show that no interpretation is good
  module _ (u : ℕ) (none : grid_search.IsNoneGood sys u) where
    no_interpretation : (m : MeasureCertificate) (k : ℕ) → grid.IsPrunedFirst sys m k → ⊥
    no_interpretation m k f = by none
      where
        by : grid_search.IsNoneGood sys u → ⊥
        by (inl barren) = (of_grid.comes_to_one sys).first_or_barren m u k barren f
        by (inr (free, large)) = large (grid_fits m k f)

    no_more : (i : ℕ) → grid.IsPrunedBarren sys i → u ≤ i
    no_more i other = by none
      where
        by : grid_search.IsNoneGood sys u → u ≤ i
        by (inl barren) = let same = (of_grid.comes_to_one sys).barren_once u i barren other in omega (arith, same)
        by (inr (free, large)) = omega (arith, free)

    first_behind : (m : MeasureCertificate) (n : ℕ) → path.IsPrunedFirst sys m n → IsPrunedFirst sys m (u + n)
    first_behind m n f = by none
      where
        by : grid_search.IsNoneGood sys u → IsPrunedFirst sys m (u + n)
        by (inl barren) = inr (u, n, barren, f, refl)
        by (inr (free, large)) = absurd (large (path_fits m n f))

    none_behind : (n : ℕ) → path_search.IsNoneGood sys n → IsNoneGood sys (u + n)
    none_behind n h = record { none = λ m k f. never m k f h; within = λ k w. within k w h }
      where
        no_precedence : (m : MeasureCertificate) (k : ℕ) → path.IsPrunedFirst sys m k → path_search.IsNoneGood sys n → ⊥
        no_precedence m k f (inl barren) = (of_path.comes_to_one sys).first_or_barren m n k barren f
        no_precedence m k f (inr (free, large)) = large (path_fits m k f)

        never : (m : MeasureCertificate) (k : ℕ) → IsPrunedFirst sys m k → path_search.IsNoneGood sys n → ⊥
        never m k (inl f) h = no_interpretation m k f
        never m k (inr (i, j, barren, f, sum)) h = no_precedence m j f h

        least : (j : ℕ) → path.IsPrunedBarren sys j → path_search.IsNoneGood sys n → n ≤ j
        least j other (inl barren) = let same = (of_path.comes_to_one sys).barren_once n j barren other in omega (arith, same)
        least j other (inr (free, large)) = omega (arith, free)

        within : (k : ℕ) → IsPrunedWhole sys k → path_search.IsNoneGood sys n → u + n ≤ k
        within k (inl (m, f)) h = absurd (never m k f h)
        within k (inr (i, j, barren, other, sum)) h = let first = no_more i barren in let second = least j other h in omega (arith, first, second, sum)

    stops_behind : (n : ℕ) → path.PrunedStops sys n → AreTooFew sys (u + n)
    stops_behind n stops k (inl (m, inl f)) = absurd (no_interpretation m k f)
    stops_behind n stops k (inl (m, inr (i, j, barren, f, sum))) =
        let first = no_more i barren in let less = of_path.stops_before_whole sys n j stops (inl (m, f)) in omega (arith, first, less, sum)
    stops_behind n stops k (inr (i, j, barren, other, sum)) =
        let first = no_more i barren in let less = of_path.stops_before_whole sys n j stops (inr other) in omega (arith, first, less, sum)

    -- what the search of the precedences answers behind them
    module _ (before here after : Counts) (spends : Spends before u here) where
      pub behind : (r : Result (Sought MeasureCert) NoMemory) → PrecedenceAnswers sys here after r → MeasureAnswers sys before after r
      behind (Ok (Found m)) (n, s, f) = (u + n, spends_both before here after u n spends s, first_behind _ n f)
      behind (Ok Nothing) (n, s, h) = (u + n, spends_both before here after u n spends s, none_behind n h)
      behind (Ok Spent) (n, s, end, stops) = (u + n, spends_both before here after u n spends s, end, stops_behind n stops)
      behind (Err e) h = tt
