-- A linear interpretation has one judgement.
use Rattle.std.proofs.Common.{◌≡◌, ◌⊎◌, inl, inr, ℕ, suc, ◌<◌, ◌≤◌, Some, length, refl, sym, ap, ap₂, ◌∙◌, subst, arith}
use Rattle.rewriting.specs.Prelude.{Rule, System, rule_at, EachRule, unraveled, heads}
use Rattle.rewriting.proofs.Conditions.{Order, is_smaller, is_equal, is_greater, order}
use Rattle.certificates.specs.Reasons.{wrong_shape, wrong_coefficient, overflow_at, smaller_variable, smaller_constant, not_ordered}
use Rattle.interpretations.specs.Size.{DoesUnravelingFit, IsFirstTooLarge}
use Rattle.interpretations.specs.Judgement.{Judgement, good, not_good, unraveling_large}
use Rattle.interpretations.specs.Linear.{Interpretation, coefficient, constant, HasShape, AreAllNumbersGood, Overflows, AreCoefficientsKept, Falls}
use Rattle.interpretations.specs.Judged.{IsFirstMisshapen, IsFirstBad, FailsAt, IsFirstSmaller, IsConstantKept, IsInterpretationJudged}
use Rattle.rewriting.proofs.Once.{IsOnce, or_once, test_once, with_once, fact_once, least_once, once_within}

module _ (sys : System) where
  large_apart : (i k : ℕ) → i < k → IsFirstTooLarge sys i → IsFirstTooLarge sys k → ⊥
  large_apart i k lt a b = a.here (b.before i a.rule lt a.is_rule)

  -- the unraveled system is too large, or it fits and the rest of the judgement holds
  abbrev pub SizeCases : (Judgement → Type 0) → Judgement → Type 0
  SizeCases Rest j = ((i : ℕ) × IsFirstTooLarge sys i × (j ≡ unraveling_large i)) ⊎ (DoesUnravelingFit sys × Rest j)

  pub sizes_once : (Rest : Judgement → Type 0) → IsOnce Judgement Rest → IsOnce Judgement (SizeCases Rest)
  sizes_once Rest rest_once =
      test_once Judgement (DoesUnravelingFit sys) (λ j. (i : ℕ) × IsFirstTooLarge sys i × (j ≡ unraveling_large i)) Rest (λ j h fit. h.1.here (fit h.0 h.1.rule h.1.is_rule))
      (with_once Judgement ℕ (IsFirstTooLarge sys) (λ i j. j ≡ unraveling_large i) (least_once (IsFirstTooLarge sys) large_apart) (λ x j k h q. h ∙ sym q)) rest_once

  module _ (es : Interpretation) where
    shape_apart : (i k : ℕ) → i < k → IsFirstMisshapen sys es i → IsFirstMisshapen sys es k → ⊥
    shape_apart i k lt a b = a.here (b.before i lt)

    shape_or_not : (k : ℕ) → IsFirstMisshapen sys es k → HasShape sys es → ⊥
    shape_or_not k a h = a.here (h.entries k (within a.place))
      where
        within : (k < length es) ⊎ (k < length (heads sys)) → k < length es
        within (inl lt) = lt
        within (inr lt) = subst (λ n. k < n) (sym h.as_many) lt

    bad_apart : (i k : ℕ) → i < k → IsFirstBad sys es i → IsFirstBad sys es k → ⊥
    bad_apart i k lt a b = a.here (b.before i a.entry lt a.is_entry)

    -- why the value does not fall at rule n
    abbrev Keeps : ℕ → Rule → Judgement → Type 0
    Keeps n r j =
        ((x : ℕ) × ((coefficient es x r.left < coefficient es x r.right) × ((y : ℕ) → y < x → coefficient es y r.right ≤ coefficient es y r.left)) × (j ≡ not_good (smaller_variable n x)))
        ⊎ ((AreCoefficientsKept es r × (constant es r.left ≤ constant es r.right)) × (j ≡ not_good (smaller_constant n)))

    abbrev FallCases : ℕ × Rule → Judgement → Type 0
    FallCases w j = (Overflows es w.1 × (j ≡ not_good (overflow_at w.0))) ⊎ ((Overflows es w.1 → ⊥) × Keeps w.0 w.1 j)

    -- rule n is the first at which it does not fall
    abbrev IsFirstKept : ℕ × Rule → Type 0
    IsFirstKept w = FailsAt sys es w.0 (λ q. (q ≡ w.1) × (Falls es q → ⊥))

    abbrev RuleCases : Judgement → Type 0
    RuleCases j = (w : ℕ × Rule) × IsFirstKept w × FallCases w j

    abbrev RulesCases : Judgement → Type 0
    RulesCases j = RuleCases j ⊎ (EachRule (unraveled sys) (Falls es) × (j ≡ good))

    abbrev BadCase : Judgement → Type 0
    BadCase j = (k : ℕ) × IsFirstBad sys es k × (j ≡ not_good (wrong_coefficient (suc k)))

    abbrev NumberCases : Judgement → Type 0
    NumberCases j = BadCase j ⊎ (AreAllNumbersGood sys es × RulesCases j)

    abbrev ShapeCase : Judgement → Type 0
    ShapeCase j = (k : ℕ) × IsFirstMisshapen sys es k × (j ≡ not_good (wrong_shape (suc k)))

    abbrev ShapeCases : Judgement → Type 0
    ShapeCases j = ShapeCase j ⊎ (HasShape sys es × NumberCases j)

    abbrev MeasureCases : Judgement → Type 0
    MeasureCases j = SizeCases ShapeCases j

    -- a rule at which the value does not fall, for a reason
    fails_there : (n : ℕ) (Why : Rule → Type 0) (a : FailsAt sys es n Why) → (Falls es a.rule → ⊥) → IsFirstKept (n, a.rule)
    fails_there n Why a fails = record { rule = a.rule; is_rule = a.is_rule; before = a.before; here = (refl, fails) }

    not_where_smaller : (r : Rule) (x : ℕ) → coefficient es x r.left < coefficient es x r.right → Falls es r → ⊥
    not_where_smaller r x lt f = (let le = f.coefficients x in omega (arith, lt, le))

    not_where_kept : (r : Rule) → constant es r.left ≤ constant es r.right → Falls es r → ⊥
    not_where_kept r le f = (let lt = f.constants in omega (arith, lt, le))

    at_rule : (j : Judgement) (n : ℕ) (r : Rule) → DoesUnravelingFit sys → HasShape sys es → AreAllNumbersGood sys es → IsFirstKept (n, r) → FallCases (n, r) j → MeasureCases j
    at_rule j n r fit shape numbers first h = inr (fit, inr (shape, inr (numbers, inl ((n, r), first, h))))

    measure_cases : (j : Judgement) → IsInterpretationJudged sys es j → MeasureCases j
    measure_cases good (fit, h) = inr (fit, inr (h.shape, inr (h.numbers, inr (h.rules, refl))))
    measure_cases (not_good (wrong_shape m)) (fit, (k, e, h)) = inr (fit, inl (k, h, ap (λ n. not_good (wrong_shape n)) e))
    measure_cases (not_good (wrong_coefficient m)) (fit, shape, (k, e, h)) = inr (fit, inr (shape, inl (k, h, ap (λ n. not_good (wrong_coefficient n)) e)))
    measure_cases (not_good (overflow_at n)) (fit, shape, numbers, a) =
        at_rule (not_good (overflow_at n)) n a.rule fit shape numbers (fails_there n (Overflows es) a (λ f. f.bounded a.here)) (inl (a.here, refl))
    measure_cases (not_good (smaller_variable n x)) (fit, shape, numbers, a) =
        at_rule (not_good (smaller_variable n x)) n a.rule fit shape numbers (fails_there n (IsFirstSmaller es x) a (not_where_smaller a.rule x a.here.1))
        (inr (a.here.0, inl (x, (a.here.1, a.here.2), refl)))
    measure_cases (not_good (smaller_constant n)) (fit, shape, numbers, a) =
        at_rule (not_good (smaller_constant n)) n a.rule fit shape numbers (fails_there n (IsConstantKept es) a (not_where_kept a.rule a.here.2))
        (inr (a.here.0, inr ((a.here.1, a.here.2), refl)))
    measure_cases (not_good (not_ordered n)) h = absurd h
    measure_cases (unraveling_large i) h = inl (i, h, refl)

    -- the least variable is one, and a variable excludes the constant
    abbrev IsLeast : Rule → ℕ → Type 0
    IsLeast r x = (coefficient es x r.left < coefficient es x r.right) × ((y : ℕ) → y < x → coefficient es y r.right ≤ coefficient es y r.left)

    least_apart : (r : Rule) (i k : ℕ) → i < k → IsLeast r i → IsLeast r k → ⊥
    least_apart r i k lt a b = (let up = a.0 in let down = b.1 i lt in omega (arith, up, down))

    keeps_once : (n : ℕ) (r : Rule) → IsOnce Judgement (Keeps n r)
    keeps_once n r =
        or_once Judgement (λ j. (x : ℕ) × IsLeast r x × (j ≡ not_good (smaller_variable n x)))
        (λ j. (AreCoefficientsKept es r × (constant es r.left ≤ constant es r.right)) × (j ≡ not_good (smaller_constant n))) apart
        (with_once Judgement ℕ (IsLeast r) (λ x j. j ≡ not_good (smaller_variable n x)) (least_once (IsLeast r) (least_apart r)) (λ x j k h q. h ∙ sym q))
        (fact_once Judgement (AreCoefficientsKept es r × (constant es r.left ≤ constant es r.right)) (not_good (smaller_constant n)))
      where
        apart : (j k : Judgement) → (x : ℕ) × IsLeast r x × (j ≡ not_good (smaller_variable n x))
            → (AreCoefficientsKept es r × (constant es r.left ≤ constant es r.right)) × (k ≡ not_good (smaller_constant n)) → ⊥
        apart j k (x, least, _) (kept, _) = (let up = least.0 in let down = kept.0 x in omega (arith, up, down))

    falls_once : (w : ℕ × Rule) → IsOnce Judgement (FallCases w)
    falls_once (n, r) =
        test_once Judgement (Overflows es r → ⊥) (λ j. Overflows es r × (j ≡ not_good (overflow_at n))) (Keeps n r) (λ j h none. none h.0)
        (fact_once Judgement (Overflows es r) (not_good (overflow_at n))) (keeps_once n r)

    kept_once : IsOnce (ℕ × Rule) IsFirstKept
    kept_once v w a b = go (order v.0 w.0)
      where
        go : Order v.0 w.0 → v ≡ w
        go (is_smaller lt) = absurd (a.here.1 (b.before v.0 a.rule lt a.is_rule))
        go (is_greater lt) = absurd (b.here.1 (a.before w.0 b.rule lt b.is_rule))
        go (is_equal e) =
            let there : rule_at (unraveled sys) w.0 ≡ Some a.rule = subst (λ k. rule_at (unraveled sys) k ≡ Some a.rule) e a.is_rule in
            let same : a.rule ≡ b.rule = (let other = b.is_rule in cc) in
            let pair : ℕ → Rule → ℕ × Rule = λ k s. (k, s) in
            ap₂ pair e (sym a.here.0 ∙ same ∙ b.here.0)

    rules_once : IsOnce Judgement RulesCases
    rules_once =
        or_once Judgement RuleCases (λ j. EachRule (unraveled sys) (Falls es) × (j ≡ good)) (λ j k h q. h.1.here.1 (q.0 h.0.0 h.1.rule h.1.is_rule))
        (with_once Judgement (ℕ × Rule) IsFirstKept FallCases kept_once falls_once) (fact_once Judgement (EachRule (unraveled sys) (Falls es)) good)

    numbers_once : IsOnce Judgement NumberCases
    numbers_once =
        test_once Judgement (AreAllNumbersGood sys es) BadCase RulesCases (λ j h all. h.1.here (all h.0 h.1.entry h.1.is_entry))
        (with_once Judgement ℕ (IsFirstBad sys es) (λ k j. j ≡ not_good (wrong_coefficient (suc k))) (least_once (IsFirstBad sys es) bad_apart) (λ x j k h q. h ∙ sym q)) rules_once

    shape_once : IsOnce Judgement ShapeCases
    shape_once =
        test_once Judgement (HasShape sys es) ShapeCase NumberCases (λ j h shape. shape_or_not h.0 h.1 shape)
        (with_once Judgement ℕ (IsFirstMisshapen sys es) (λ k j. j ≡ not_good (wrong_shape (suc k))) (least_once (IsFirstMisshapen sys es) shape_apart) (λ x j k h q. h ∙ sym q))
        numbers_once

    pub judgement_once : IsOnce Judgement (IsInterpretationJudged sys es)
    judgement_once =
        once_within Judgement (IsInterpretationJudged sys es) MeasureCases measure_cases (sizes_once ShapeCases shape_once)
