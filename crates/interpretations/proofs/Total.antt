-- Every interpretation has a judgement.
use Rattle.std.proofs.Common.{◌≡◌, ℕ, suc, ◌<◌, ◌≤◌, ◌⊎◌, inl, inr, refl, length, arith}
use Rattle.std.proofs.lemmas.Bool.{cases_lt}
use Rattle.std.proofs.lemmas.Option.{slice_get_within}
use Rattle.rewriting.specs.Prelude.{System, EachRule, unraveled, unraveled_rule, heads}
use Rattle.rewriting.proofs.Search.{FirstBelow, search_below, FirstAt, search_at, FirstRule, search_rules}
use Rattle.certificates.specs.Prelude.{LinearEntry, wrong_shape, wrong_coefficient, overflow_at, smaller_variable, smaller_constant}
use Rattle.interpretations.specs.Size.{first_keeper, DoesRuleFit, DoesUnravelingFit, IsFirstTooLarge}
use Rattle.interpretations.specs.Judgement.{Judgement, good, not_good, unraveling_large}
use Rattle.interpretations.specs.Linear.{Interpretation, IsEntry, HasShape, AreNumbersGood, AreAllNumbersGood, Falls}
use Rattle.interpretations.specs.Judged.{IsFirstMisshapen, IsInterpretationJudged}
use Rattle.interpretations.proofs.Decided.{sides_fit, entry, numbers_good, DoesNotFall, overflows, variable_counts_more, constant_is_kept, falls}

-- the unraveled system fits, or some rule of it is the first that is too large
pub fit_or_large : (sys : System) → DoesUnravelingFit sys ⊎ ((i : ℕ) × IsFirstTooLarge sys i)
fit_or_large sys = go (search_rules (DoesRuleFit sys) (λ i q. DoesRuleFit sys i q → ⊥) sys (λ i q at. sides_fit (unraveled_rule (first_keeper sys i) q)))
  where
    go : DoesUnravelingFit sys ⊎ FirstRule (DoesRuleFit sys) (λ i q. DoesRuleFit sys i q → ⊥) sys → DoesUnravelingFit sys ⊎ ((i : ℕ) × IsFirstTooLarge sys i)
    go (inl fit) = inl fit
    go (inr first) = inr (first.number, record { rule = first.found; is_rule = first.is_rule; before = first.before; here = first.has })

module _ (sys : System) (es : Interpretation) where
  abbrev Judged : Type 0
  Judged = (j : Judgement) × IsInterpretationJudged sys es j

  abbrev IsMissing : ℕ → Type 0
  IsMissing k = IsEntry sys es k → ⊥

  -- as many entries as symbols, or the first place where one of them ends
  of_lengths : ((k : ℕ) → k < length es → IsEntry sys es k) → HasShape sys es ⊎ ((k : ℕ) × IsFirstMisshapen sys es k)
  of_lengths all = longer (cases_lt (length es) (length (heads sys)))
    where
      no_more : (length (heads sys) < length es) ⊎ (length es ≤ length (heads sys)) → length (heads sys) ≤ length es → length es ≡ length (heads sys)
      no_more (inl lt) le = (let e = all (length (heads sys)) lt in let w = slice_get_within (heads sys) (length (heads sys)) e.entry.head e.head in absurd (omega (arith, w)))
      no_more (inr ge) le = omega (arith, ge, le)

      longer : (length es < length (heads sys)) ⊎ (length (heads sys) ≤ length es) → HasShape sys es ⊎ ((k : ℕ) × IsFirstMisshapen sys es k)
      longer (inl lt) =
          inr (length es, record { place = inr lt; before = all; here = λ e. let w = slice_get_within es (length es) e.entry e.is_entry in omega (arith, w) })
      longer (inr le) = inl (record { as_many = no_more (cases_lt (length (heads sys)) (length es)) le; entries = all })

  shape : HasShape sys es ⊎ ((k : ℕ) × IsFirstMisshapen sys es k)
  shape = go (search_below (IsEntry sys es) IsMissing (entry sys es) (length es))
    where
      go : ((k : ℕ) → k < length es → IsEntry sys es k) ⊎ FirstBelow (IsEntry sys es) IsMissing (length es) → HasShape sys es ⊎ ((k : ℕ) × IsFirstMisshapen sys es k)
      go (inl all) = of_lengths all
      go (inr first) = inr (first.number, record { place = inl first.below; before = first.before; here = first.has })

  abbrev Good : ℕ → LinearEntry → Type 0
  Good k e = AreNumbersGood sys k e.coefficients

  abbrev Bad : ℕ → LinearEntry → Type 0
  Bad k e = Good k e → ⊥

  of_rules : DoesUnravelingFit sys → HasShape sys es → AreAllNumbersGood sys es → EachRule (unraveled sys) (Falls es) ⊎ FirstRule (λ i r. Falls es r) (λ i r. DoesNotFall es r) (unraveled sys) → Judged
  of_rules fit s numbers (inl all) = (good, (fit, record { shape = s; numbers = numbers; rules = all }))
  of_rules fit s numbers (inr first) = go first.has
    where
      go : DoesNotFall es first.found → Judged
      go (overflows h) = (not_good (overflow_at first.number), (fit, s, numbers, record { rule = first.found; is_rule = first.is_rule; before = first.before; here = h }))
      go (variable_counts_more x h) =
          (not_good (smaller_variable first.number x), (fit, s, numbers, record { rule = first.found; is_rule = first.is_rule; before = first.before; here = h }))
      go (constant_is_kept h) = (not_good (smaller_constant first.number), (fit, s, numbers, record { rule = first.found; is_rule = first.is_rule; before = first.before; here = h }))

  of_numbers : DoesUnravelingFit sys → HasShape sys es → AreAllNumbersGood sys es ⊎ FirstAt Good Bad es → Judged
  of_numbers fit s (inl all) = of_rules fit s all (search_rules (λ i r. Falls es r) (λ i r. DoesNotFall es r) (unraveled sys) (λ i r at. falls es r))
  of_numbers fit s (inr first) = (
    not_good (wrong_coefficient (suc first.number)),
    (fit, s, (first.number, refl, record { entry = first.found; is_entry = first.is_there; before = first.before; here = first.has })),
  )

  of_shape : DoesUnravelingFit sys → HasShape sys es ⊎ ((k : ℕ) × IsFirstMisshapen sys es k) → Judged
  of_shape fit (inl s) = of_numbers fit s (search_at Good Bad es (λ k e at. numbers_good sys k e.coefficients))
  of_shape fit (inr (k, h)) = (not_good (wrong_shape (suc k)), (fit, (k, refl, h)))

  of_sizes : DoesUnravelingFit sys ⊎ ((i : ℕ) × IsFirstTooLarge sys i) → Judged
  of_sizes (inl fit) = of_shape fit shape
  of_sizes (inr (i, large)) = (unraveling_large i, large)

  pub interpretation_total : (j : Judgement) × IsInterpretationJudged sys es j
  interpretation_total = of_sizes (fit_or_large sys)
