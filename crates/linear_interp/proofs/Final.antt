-- From what the checks answer to the judgement.
use Rattle.std.proofs.Common.{◌≡◌, ℕ, zero, suc, ◌+◌, ◌^◌, ◌<◌, ◌≤◌, ◌⊎◌, inl, inr, true, refl, sym, ap, ◌∙◌, subst, subst₂, List, [], ◌∷◌, map, length, slice_get, Option, Some}
use Rattle.std.proofs.Common.{None, Result, Ok, Err, arith, eq-eqb}
use Rattle.std.proofs.lemmas.Bool.{cases_lt, or_left, or_right}
use Rattle.std.proofs.lemmas.Option.{slice_get_within}
use Rattle.rewriting.specs.Prelude.{unraveled, heads, rule_at, Term, var, app, Terms, nil, cons, IsRule, AreRules, IsSystem, IsWellFormed, CountsFrom, rule_variables, terms_of_rule}
use Rattle.rewriting.specs.Prelude.{Signature, IsOver, AreOver, occurs, occurs_in}
use Rattle.rewriting.specs.Rules as math
use Rattle.rewriting.proofs.Variables.{variables_have_all}
use Rattle.rewriting.proofs.Unraveled.{unraveled_well_formed}
use Rattle.rewriting.proofs.Lists.{counted_below}
use Rattle.interpretations.specs.Size.{DoesUnravelingFit}
use Rattle.interpretations.specs.Linear.{Interpretation, IsEntry, HasShape, AreNumbersGood, AreAllNumbersGood, Falls, Overflows}
use Rattle.interpretations.specs.Judged.{IsFirstMisshapen, IsFirstBad, FailsAt, IsFirstSmaller, IsConstantKept, IsInterpretationJudged}
use Rattle.interpretations.proofs.Bound.{counted_numbers, small_number}
use Rattle.interpretations.proofs.Structure.{sides_of, large_side}
use Rattle.term_core.specs.HeadView.{head_view}
use Rattle.term_core.specs.RuleView.{rule_view, AreCounted}
use Rattle.term_core.specs.declared.systems.Head.{Head}
use Rattle.term_core.specs.declared.systems.Rule.{Rule}
use Rattle.cert_model.specs.declared.reasons.MeasureReason.TheVariants as reason
use Rattle.measure.specs.Answers.{ShowsAnswers}
use Rattle.measure.specs.declared.MeasureError.{MeasureError}
use Rattle.measure.specs.declared.MeasureError.TheVariants.{Reason, Unraveling, NoMemory}
use Rattle.linear_interp.specs.Parts.{IsReady, AreReady}
use Rattle.linear_interp.specs.Entries.{IsEntryAt, MisshapenAnswers, AreGoodBelow, BadAnswers}
use Rattle.linear_interp.specs.Falling.{IsSideReady, IsRuleReady, AreRulesReady, IsFirstAt, RulesAnswers}

module _ (sys : math.System) (es : Interpretation) where
  entry_of : (k : ℕ) → IsEntryAt (heads sys) (unraveled sys).arities es k → IsEntry sys es k
  entry_of k (e, at, head, numbers) = record { entry = e; is_entry = at; head = head; numbers = numbers }

  at_entry : (k : ℕ) → IsEntry sys es k → IsEntryAt (heads sys) (unraveled sys).arities es k
  at_entry k h = (h.entry, h.is_entry, h.head, h.numbers)

  misshapen_here : (k : ℕ) → MisshapenAnswers (heads sys) (unraveled sys).arities es (Some k) → IsFirstMisshapen sys es k
  misshapen_here k h = record { place = h.0; before = λ j lt. entry_of j (h.1 j lt); here = λ e. h.2 (at_entry k e) }

  shape_here : MisshapenAnswers (heads sys) (unraveled sys).arities es None → HasShape sys es
  shape_here h = record { as_many = by_case (cases_lt (length es) (length (heads sys))); entries = λ k lt. entry_of k (h k (inl lt)) }
    where
      by_case : (length es < length (heads sys)) ⊎ (length (heads sys) ≤ length es) → length es ≡ length (heads sys)
      by_case (inl lt) = let e = h (length es) (inr lt) in let w = slice_get_within es (length es) e.0 e.1 in absurd (omega (arith, w))
      by_case (inr le) = by_other (cases_lt (length (heads sys)) (length es))
        where
          by_other : (length (heads sys) < length es) ⊎ (length es ≤ length (heads sys)) → length es ≡ length (heads sys)
          by_other (inl lt) = let e = h (length (heads sys)) (inl lt) in let w = slice_get_within (heads sys) (length (heads sys)) _ e.2 in absurd (omega (arith, w))
          by_other (inr more) = omega (arith, le, more)

  -- for the heads and the arities that are given
  module _ (given heads_given : List Head) (arities : List ℕ) (whole : math.System) (same : given ≡ heads_given) (are : map head_view heads_given ≡ heads sys)
      (of_whole : arities ≡ whole.arities) (is : whole ≡ unraveled sys) where
    at_heads : (o : Option ℕ) → MisshapenAnswers (map head_view given) arities es o → MisshapenAnswers (heads sys) (unraveled sys).arities es o
    at_heads o h = subst₂ (λ z a. MisshapenAnswers z a es o) (ap (map head_view) same ∙ are) (of_whole ∙ ap (λ z. z.arities) is) h

    pub misshapen : (k : ℕ) → MisshapenAnswers (map head_view given) arities es (Some k) → IsFirstMisshapen sys es k
    misshapen k h = misshapen_here k (at_heads (Some k) h)

    pub shape : MisshapenAnswers (map head_view given) arities es None → HasShape sys es
    shape h = shape_here (at_heads None h)

  good_numbers : (f : ℕ) (cs : List ℕ) → AreGoodBelow (length sys.arities) f cs (length cs) → AreNumbersGood sys f cs
  good_numbers f cs h =
      record {
        small = λ k c at. (h k c (slice_get_within cs k c at) at).0;
        active = λ k c at active. (h (suc k) c (slice_get_within cs (suc k) c at) at).1 active;
        constant = λ c at many. (h 0 c (slice_get_within cs 0 c at) at).1 many;
      }

  numbers_good : (f : ℕ) (cs : List ℕ) → AreNumbersGood sys f cs → AreGoodBelow (length sys.arities) f cs (length cs)
  numbers_good f cs g zero c lt at = (g.small 0 c at, λ many. g.constant c at many)
  numbers_good f cs g (suc k) c lt at = (g.small (suc k) c at, λ active. g.active k c at active)

  pub bad : (k : ℕ) → BadAnswers (length sys.arities) es (Some k) → IsFirstBad sys es k
  bad k (e, at, before, here) = record { entry = e; is_entry = at; before = λ j d lt there. good_numbers j d.coefficients (before j d lt there); here = λ g. here (numbers_good k e.coefficients g) }

  pub all_good_numbers : BadAnswers (length sys.arities) es None → AreAllNumbersGood sys es
  all_good_numbers h k e at = good_numbers k e.coefficients (h k e at)

  pub few_entries : HasShape sys es → length (heads sys) < 2 ^ 31 → (k : ℕ) → BadAnswers (length sys.arities) es (Some k) → k < 2 ^ 31
  few_entries s few k (e, at, before, here) = let w = slice_get_within es k e at in let m = s.as_many in omega (arith, w, m, few)

module _ (sys : math.System) (es : Interpretation) (s : HasShape sys es) (numbers : AreAllNumbersGood sys es) where
  mutual
    ready : (n : ℕ) (t : Term) → IsOver (unraveled sys).arities t → ((x : ℕ) → occurs x t ≡ true → suc x < n) → IsReady es n t
    ready n (var x) over low = low x (eq-eqb x x refl)
    ready n (app f ts) over low =
        let c = counted_numbers sys es s f _ over.0 in
        (c.0, c.1, λ k. small_number sys es numbers f k, all_ready n ts over.1 low)

    all_ready : (n : ℕ) (ts : Terms) → AreOver (unraveled sys).arities ts → ((x : ℕ) → occurs_in x ts ≡ true → suc x < n) → AreReady es n ts
    all_ready n nil over low = tt
    all_ready n (cons t ts) over low = (ready n t over.0 (λ x o. low x (or_left _ _ o)), all_ready n ts over.1 (λ x o. low x (or_right _ _ o)))

  -- a side of a rule, whose variables are below a number
  side_ready : IsWellFormed sys → (i : ℕ) (r : math.Rule) (n : ℕ) → rule_at (unraveled sys) i ≡ Some r → CountsFrom 0 (rule_variables r) → n ≡ length (rule_variables r)
      → IsSideReady es n r.left × IsSideReady es n r.right
  side_ready well i r n at counts same =
      let side = sides_of sys well i r at in
      let over = (unraveled_well_formed sys well i r at).over in
      let low : (x : ℕ) → occurs_in x (terms_of_rule r) ≡ true
      → suc x < n + 1 = (λ x o. let h = counted_below 0 (rule_variables r) x counts (variables_have_all x [] (terms_of_rule r) o) in omega (arith, h, same)) in (
        record {
          ready = ready (n + 1) r.left over.0 (λ x o. low x (or_left _ _ o));
          shows = large_side sys es s numbers r.left over.0 side.0;
        },
        record {
          ready = ready (n + 1) r.right over.1.0 (λ x o. low x (or_right (occurs x r.left) _ (or_left _ _ o)));
          shows = large_side sys es s numbers r.right over.1.0 side.1;
        },
      )

rule_is : (arities : Signature) (rs : List math.Rule) (i : ℕ) (r : math.Rule) → AreRules arities rs → slice_get rs i ≡ Some r → IsRule arities r
rule_is arities [] i r h e = absurd (cc)
rule_is arities (q ∷ rs) zero r h e = let same : q ≡ r = cc in subst (IsRule arities) same h.0
rule_is arities (q ∷ rs) (suc i) r h e = rule_is arities rs i r h.1 e

each_ready : (es : Interpretation) (rs : List Rule) → AreCounted rs
    → ((i : ℕ) (r : Rule) → slice_get (map rule_view rs) i ≡ Some (rule_view r) → r.vars ≡ length (rule_variables (rule_view r)) → IsRuleReady es r) → AreRulesReady es rs
each_ready es [] counted h = tt
each_ready es (r ∷ rs) counted h = (h 0 r refl counted.0, each_ready es rs counted.1 (λ i q e c. h (suc i) q e c))

pub rules_ready : (sys system : math.System) (es : Interpretation) (rs : List Rule) → system ≡ unraveled sys → IsWellFormed sys → HasShape sys es → AreAllNumbersGood sys es
    → map rule_view rs ≡ system.rules → AreCounted rs → IsSystem system → AreRulesReady es rs
rules_ready sys system es rs same well s numbers are counted sound =
    each_ready es rs counted
    (λ i r at count.
    let there : slice_get system.rules i ≡ Some (rule_view r) = subst (λ q. slice_get q i ≡ Some (rule_view r)) are at in
    let rule = rule_is system.arities system.rules i (rule_view r) sound.rules there in
    let here : rule_at (unraveled sys) (suc i) ≡ Some (rule_view r) = subst (λ z. rule_at z (suc i) ≡ Some (rule_view r)) same there in
    let both = side_ready sys es s numbers well (suc i) (rule_view r) r.vars here rule.numbered count in
    let few = rule.few_variables in
    record { few = omega (arith, few, count); left = both.0; right = both.1 })

-- what holds of the rules' list holds of the unraveled system
module _ (sys : math.System) (es : Interpretation) where
  fails_at : (n : ℕ) (Why : math.Rule → Type 0) → IsFirstAt es (unraveled sys).rules n Why → FailsAt sys es n Why
  fails_at n Why h =
      subst (λ m. FailsAt sys es m Why) (sym h.is_number) record { rule = h.rule; is_rule = h.is_rule; before = before; here = h.here }
    where
      before : (j : ℕ) (r : math.Rule) → j < suc h.place → rule_at (unraveled sys) j ≡ Some r → Falls es r
      before zero r lt at = absurd (cc)
      before (suc j) r lt at = h.before j r (omega (arith, lt)) at

  every : ((j : ℕ) (r : math.Rule) → slice_get (unraveled sys).rules j ≡ Some r → Falls es r) → (i : ℕ) (r : math.Rule) → rule_at (unraveled sys) i ≡ Some r → Falls es r
  every h zero r at = absurd (cc)
  every h (suc i) r at = h i r at

  judged_here : DoesUnravelingFit sys → HasShape sys es → AreAllNumbersGood sys es → (result : Result (Unit {0}) MeasureError) → RulesAnswers es (unraveled sys).rules result
      → ShowsAnswers (IsInterpretationJudged sys es) result
  judged_here fit s numbers (Ok u) h = (fit, record { shape = s; numbers = numbers; rules = every h })
  judged_here fit s numbers (Err (Reason (reason.Overflow n))) h = (fit, s, numbers, fails_at n (Overflows es) h)
  judged_here fit s numbers (Err (Reason (reason.Variable n x))) h = (fit, s, numbers, fails_at n (IsFirstSmaller es x) h)
  judged_here fit s numbers (Err (Reason (reason.Constant n))) h = (fit, s, numbers, fails_at n (IsConstantKept es) h)
  judged_here fit s numbers (Err (Reason (reason.Shape n))) h = absurd h
  judged_here fit s numbers (Err (Reason (reason.Coefficient n))) h = absurd h
  judged_here fit s numbers (Err (Reason (reason.Order n))) h = absurd h
  judged_here fit s numbers (Err (Unraveling n)) h = absurd h
  judged_here fit s numbers (Err NoMemory) h = tt

  pub judged : (system : math.System) (rs : List math.Rule) → system ≡ unraveled sys → rs ≡ system.rules → DoesUnravelingFit sys → HasShape sys es → AreAllNumbersGood sys es
      → (result : Result (Unit {0}) MeasureError) → RulesAnswers es rs result
      → ShowsAnswers (IsInterpretationJudged sys es) result
  judged system rs same are fit s numbers result h =
      judged_here fit s numbers result (subst (λ q. RulesAnswers es q result) (are ∙ ap (λ z. z.rules) same) h)
