-- The cost of the proof space is the sum of its parts, and its price has three cases.
use Rattle.std.proofs.Common.{ℕ, ◌≡◌, ◌+◌, inl, inr, List, [], ◌∷◌, refl, sym, ap, ◌∙◌, subst, arith}
use Rattle.rewriting.specs.Rules.{System}
use Rattle.certificates.specs.Certificates.{Simplification, Certificate, simplified_certificate}
use Rattle.cops_names.specs.NameTable.{NameTable}
use Rattle.first_found.specs.Spaces.{Space, IsBarren, IsPrice, followed_by}
use Rattle.first_found.proofs.Spaces.{barren_both}
use Rattle.search_spaces.specs.Texts.{HasText}
use Rattle.search_spaces.specs.Ortho.{ortho_space}
use Rattle.search_spaces.specs.Peak.{peak_space}
use Rattle.search_spaces.proofs.OrthoThenPeak.{ortho_searchable, peak_searchable}
use Rattle.quasi_space.specs.Measures.{MeasureTrials, each_measure, pruned_measures}
use Rattle.quasi_space.specs.Quasi.{quasi_space_by}
use Rattle.quasi_space.specs.AllSpaces.{all_spaces_by}
use Rattle.proof_spaces.specs.Proofs.{with_steps, three_with_steps, if_some, proof_space_by}
use Rattle.proof_spaces.specs.Prices.{IsThree, IsThreeBehind, IsWhole, HoldsWith, HoldsNone, IsFirstBehind, in_first, in_second, in_third, HoldNone, NoneBehind, SomeBehind}
use Rattle.proof_spaces.specs.Prices.{IsProofPrice, in_own, in_behind, in_none}
use Rattle.proof_spaces.specs.Laws.{PricesHaveThreeCases, CostsAreSums, PrunedCostsAreSums}

module _ (by : System → MeasureTrials) (names : NameTable) where
  -- the cost of three spaces is the three numbers
  three_of_cost : (sys : System) (n : ℕ) → (all_spaces_by (by sys) names sys).Costs n → IsThree by names sys n
  three_of_cost sys n (i, c, (a, b, x, y, e), z, f) = (a, b, c, x, y, z, f ∙ ap (λ k. k + c) e)

  cost_of_three : (sys : System) (n : ℕ) → IsThree by names sys n → (all_spaces_by (by sys) names sys).Costs n
  cost_of_three sys n (a, b, c, x, y, z, e) = (a + b, c, (a, b, x, y, refl), z, e)

  behind_of_cost : (steps : List Simplification) (last : System) (n : ℕ) → (if_some by names steps last).Costs n → IsThreeBehind by names steps last n
  behind_of_cost [] last n e = e
  behind_of_cost (s ∷ steps) last n h = three_of_cost last n h

  cost_of_behind : (steps : List Simplification) (last : System) (n : ℕ) → IsThreeBehind by names steps last n → (if_some by names steps last).Costs n
  cost_of_behind [] last n e = e
  cost_of_behind (s ∷ steps) last n h = cost_of_three last n h

  module _ (sys : System) where
    whole_of_cost : (n : ℕ) → (proof_space_by by names sys).Costs n → IsWhole by names sys n
    whole_of_cost n (i, j, x, (y, a, b, is, z, f), e) =
        record {
          own = i;
          is_own = three_of_cost sys i x;
          standard = y;
          tried = a;
          is_standard = is;
          behind = b;
          is_behind = behind_of_cost y.steps y.last b z;
          sum = omega (arith, e, f);
        }

    cost_of_whole : (n : ℕ) → IsWhole by names sys n → (proof_space_by by names sys).Costs n
    cost_of_whole n w = (
      w.own,
      w.tried + w.behind,
      cost_of_three sys w.own w.is_own,
      (w.standard, w.tried, w.behind, w.is_standard, cost_of_behind w.standard.steps w.standard.last w.behind w.is_behind, refl),
      let e = w.sum in omega (arith, e),
    )

    -- with its steps a space of the last system holds none exactly where it is barren
    none_of_barren : (steps : List Simplification) (S : Space Certificate) → IsBarren (with_steps names steps S) → HoldsNone by names steps S
    none_of_barren steps S b c n f w = b (simplified_certificate steps c) n (c, f, refl, w)

    barren_of_none : (steps : List Simplification) (S : Space Certificate) → HoldsNone by names steps S → IsBarren (with_steps names steps S)
    barren_of_none steps S none d n (c, f, e, w) = none c n f (subst (HasText names) e w)

    module _ (steps : List Simplification) (last : System) where
      abbrev First : Space Certificate
      First = with_steps names steps (ortho_space names last)

      abbrev Second : Space Certificate
      Second = with_steps names steps (peak_space names last)

      held : (S : Space Certificate) (d : Certificate) (n : ℕ) → (with_steps names steps S).Finds d n → HoldsWith by names steps S n
      held S d n (c, f, e, w) = (c, f, subst (HasText names) e w)

      -- the first two are barren
      two_barren : IsBarren (followed_by First Second) → IsBarren First × IsBarren Second
      two_barren b =
          let first : IsBarren First = λ d n f. b d n (inl f) in
          (first, λ d n f. (ortho_searchable names last).has_cost (λ i x. b d (i + n) (inr (first, (i, n, x, f, refl)))))

      price_behind : (d : Certificate) (n : ℕ) → (three_with_steps by names steps last).Finds d n → IsFirstBehind by names steps last n
      price_behind d n (inl (inl f)) = in_first n (held (ortho_space names last) d n f)
      price_behind d n (inl (inr (b, (i, j, x, f, e)))) =
          subst (IsFirstBehind by names steps last) (sym e) (in_second i j (none_of_barren steps (ortho_space names last) b) x (held (peak_space names last) d j f))
      price_behind d n (inr (b, (k, j, (i, l, x, y, g), f, e))) =
          let two = two_barren b in
          let sum : n ≡ i + l + j = omega (arith, g, e) in
          subst (IsFirstBehind by names steps last) (sym sum)
          (in_third i l j (none_of_barren steps (ortho_space names last) two.0) (none_of_barren steps (peak_space names last) two.1) x y (held (quasi_space_by (by last) names last) d j f))

      found_behind : (n : ℕ) → IsFirstBehind by names steps last n → (d : Certificate) × (three_with_steps by names steps last).Finds d n
      found_behind _ (in_first n (c, f, w)) = (simplified_certificate steps c, inl (inl (c, f, refl, w)))
      found_behind _ (in_second a n none x (c, f, w)) =
          (simplified_certificate steps c, inl (inr (barren_of_none steps (ortho_space names last) none, (a, n, x, (c, f, refl, w), refl))))
      found_behind _ (in_third a b n none nor x y (c, f, w)) = (
        simplified_certificate steps c,
        inr (
          barren_both First Second (barren_of_none steps (ortho_space names last) none) (barren_of_none steps (peak_space names last) nor),
          (a + b, n, (a, b, x, y, refl), (c, f, refl, w), refl),
        ),
      )

      none_three : IsBarren (three_with_steps by names steps last) → HoldNone by names steps last
      none_three b =
          let first_two : IsBarren (followed_by First Second) = λ d n f. b d n (inl f) in
          let two = two_barren first_two in
          record {
            ortho = none_of_barren steps (ortho_space names last) two.0;
            peak = none_of_barren steps (peak_space names last) two.1;
            quasi = λ c n f w. (ortho_searchable names last).has_cost (λ i x. (peak_searchable names last).has_cost (λ j y.
                b (simplified_certificate steps c) ((i + j) + n) (inr (first_two, (i + j, n, (i, j, x, y, refl), (c, f, refl, w), refl)))));
          }

      three_none : HoldNone by names steps last → IsBarren (three_with_steps by names steps last)
      three_none h d n (inl (inl f)) = barren_of_none steps (ortho_space names last) h.ortho d n f
      three_none h d n (inl (inr (b, (i, j, x, f, e)))) = barren_of_none steps (peak_space names last) h.peak d j f
      three_none h d n (inr (b, (i, j, x, f, e))) = barren_of_none steps (quasi_space_by (by last) names last) h.quasi d j f

    some_of_found : (steps : List Simplification) (last : System) (d : Certificate) (n : ℕ) → (if_some by names steps last).Finds d n → SomeBehind by names steps last n
    some_of_found [] last d n f = f
    some_of_found (s ∷ steps) last d n f = price_behind (s ∷ steps) last d n f

    found_of_some : (steps : List Simplification) (last : System) (n : ℕ) → SomeBehind by names steps last n → (d : Certificate) × (if_some by names steps last).Finds d n
    found_of_some [] last n h = absurd h
    found_of_some (s ∷ steps) last n h = found_behind (s ∷ steps) last n h

    none_of_barren_if : (steps : List Simplification) (last : System) → IsBarren (if_some by names steps last) → NoneBehind by names steps last
    none_of_barren_if [] last b = tt
    none_of_barren_if (s ∷ steps) last b = none_three (s ∷ steps) last b

    barren_of_none_if : (steps : List Simplification) (last : System) → NoneBehind by names steps last → IsBarren (if_some by names steps last)
    barren_of_none_if [] last h d n f = f
    barren_of_none_if (s ∷ steps) last h d n f = three_none (s ∷ steps) last h d n f

    cases_of_price : (n : ℕ) → IsPrice (proof_space_by by names sys) n → IsProofPrice by names sys n
    cases_of_price n (inl (d, inl f)) = in_own d n f
    cases_of_price n (inl (d, inr (b, (i, j, x, (y, a, k, is, f, g), e)))) =
        let sum : n ≡ i + a + k = omega (arith, e, g) in
        subst (IsProofPrice by names sys) (sym sum) (in_behind i a k y b (three_of_cost sys i x) is (some_of_found y.steps y.last d k f))
    cases_of_price n (inr (b, w)) =
        let own : IsBarren (all_spaces_by (by sys) names sys) = λ d m f. b d m (inl f) in
        in_none n own
        (λ x a is. none_of_barren_if x.steps x.last (λ d k f. b d (w.0 + (a + k)) (inr (own, (w.0, a + k, w.2, (x, a, k, is, f, refl), refl)))))
        (whole_of_cost n w)

    price_of_cases : (n : ℕ) → IsProofPrice by names sys n → IsPrice (proof_space_by by names sys) n
    price_of_cases _ (in_own c n f) = inl (c, inl f)
    price_of_cases _ (in_behind own tried n x b h is some) =
        let at = found_of_some x.steps x.last n some in
        inl (at.0, inr (b, (own, tried + n, cost_of_three sys own h, (x, tried, n, is, at.1, refl), omega arith)))
    price_of_cases _ (in_none n b none w) = inr (nothing_there, cost_of_whole n w)
      where
        nothing_there : IsBarren (proof_space_by by names sys)
        nothing_there d m (inl f) = b d m f
        nothing_there d m (inr (q, (i, j, x, (y, a, k, is, f, g), e))) = barren_of_none_if y.steps y.last (none y a is) d k f

pub prices_have_cases : PricesHaveThreeCases
prices_have_cases names sys n = (cases_of_price each_measure names sys n, price_of_cases each_measure names sys n)

pub costs_are_sums : CostsAreSums
costs_are_sums names sys n = (whole_of_cost each_measure names sys n, cost_of_whole each_measure names sys n)

pub pruned_costs_are_sums : PrunedCostsAreSums
pruned_costs_are_sums names sys n = (whole_of_cost pruned_measures names sys n, cost_of_whole pruned_measures names sys n)
