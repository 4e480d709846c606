-- The first reason, from rule to rule, and the judgement that it gives.
use Rattle.std.proofs.Common.{◌≡◌, ℕ, zero, suc, ◌+◌, ◌<◌, ◌≤◌, true, refl, sym, ap, ◌∙◌, subst, List, [], ◌∷◌, ◌++◌, map, length, take, get_or, slice_get, Option, Some, None, Result, Ok, Err, arith}
use Rattle.std.proofs.lemmas.List.{length-append, length-map, length-take}
use Rattle.std.proofs.lemmas.Option.{slice_get_within}
use Rattle.general_lemmas.proofs.Places.{slice_get-append_left, slice_get-append_right}
use Rattle.rewriting.specs.Rules as math
use Rattle.rewriting.specs.Prelude.{condition_count, DoSidesFit, unraveled, unraveled_rule, unraveled_rules}
use Rattle.interpretations.specs.Judgement.{good, not_good}
use Rattle.interpretations.specs.Size.{DoesUnravelingFit}
use Rattle.path_orders.specs.Precedences.{Precedence}
use Rattle.path_orders.specs.Judged.{IsPrecedenceJudged}
use Rattle.cert_model.specs.ReasonView.{measure_reason_view}
use Rattle.cert_model.specs.declared.reasons.MeasureReason.{MeasureReason}
use Rattle.cert_model.specs.declared.reasons.MeasureReason.TheVariants.{Order}
use Rattle.term_core.specs.RuleView.{rule_view}
use Rattle.term_core.specs.declared.systems.Rule.{Rule}
use Rattle.unravel.proofs.Progress.{Front, front_begin, front_all, front_rules, front_next, count_within}
use Rattle.unravel.proofs.Sound.{length-rules}
use Rattle.unravel.proofs.Whole.{all_fit, first_large}
use Rattle.unravel.specs.declared.UnravelError.{UnravelError}
use Rattle.unravel.specs.declared.UnravelError.TheVariants.{TooLarge, NoMemory}
use Rattle.lpo.specs.Reasons.{ShapeAnswers, ReasonAnswers, RulesReasonAnswers, FirstReasonAnswers}
use Rattle.lpo.specs.Rules.{UnorderedAnswers, is_ordered_by}
use Rattle.lpo.proofs.Judging.{whole, first_unordered, all_ordered}

-- what holds of each rule of the one list, and of the first ones of the other
both_hold : (P : math.Rule → Type 0) (xs ys : List math.Rule) (i : ℕ) → ((j : ℕ) (q : math.Rule) → slice_get xs j ≡ Some q → P q) → ((j : ℕ) (q : math.Rule) → j < i → slice_get ys j ≡ Some q → P q)
    → (j : ℕ) (q : math.Rule) → j < length xs + i → slice_get (xs ++ ys) j ≡ Some q → P q
both_hold P [] ys i one two j q less at = two j q (omega (arith, less)) at
both_hold P (x ∷ xs) ys i one two zero q less at = one zero q at
both_hold P (x ∷ xs) ys i one two (suc j) q less at = both_hold P xs ys i (λ k p e. one (suc k) p e) two j q (omega (arith, less)) at

-- the reason so far stays, or the next rules give one, or they give none
module _ (shape : Option MeasureReason) (places : List ℕ) (front more : List math.Rule) where
  pub reason_kept : (reason : MeasureReason) → ReasonAnswers shape places front (Some reason) → ReasonAnswers shape places (front ++ more) (Some reason)
  reason_kept reason h = go shape h
    where
      go : (s : Option MeasureReason) → ReasonAnswers s places front (Some reason) → ReasonAnswers s places (front ++ more) (Some reason)
      go (Some s) e = e
      go None (i, e, (r, at, fails, all)) =
          let within = slice_get_within front i r at in
          (i, e, (r, slice_get-append_left front more i within ∙ at, fails, λ j q less there. all j q less (sym (slice_get-append_left front more j (omega (arith, less, within))) ∙ there)))

  pub reason_found : (i n : ℕ) → n ≡ length front + i + 1 → ReasonAnswers shape places front None → UnorderedAnswers places more (Some i) → ReasonAnswers shape places (front ++ more) (Some (Order n))
  reason_found i n number h (r, at, fails, all) = go shape h
    where
      go : (s : Option MeasureReason) → ReasonAnswers s places front None → ReasonAnswers s places (front ++ more) (Some (Order n))
      go (Some s) e = absurd (cc)
      go None ordered =
          let same : n ≡ suc (length front + i) = omega (arith, number) in
          (length front + i, ap Order same, (r, slice_get-append_right front more i ∙ at, fails, both_hold (λ q. is_ordered_by places q ≡ true) front more i ordered all))

  pub reason_none : ReasonAnswers shape places front None → UnorderedAnswers places more None → ReasonAnswers shape places (front ++ more) None
  reason_none h all = go shape h
    where
      go : (s : Option MeasureReason) → ReasonAnswers s places front None → ReasonAnswers s places (front ++ more) None
      go (Some s) e = e
      go None ordered =
          λ j q at.
          let within = slice_get_within (front ++ more) j q at in
          let many = length-append front more in
          both_hold (λ p. is_ordered_by places p ≡ true) front more (length more) ordered (λ k p less there. all k p there) j q (omega (arith, within, many)) at

-- the reason of the rules that come from the first i rules
pub record Walk (f : ℕ) (rs : List Rule) (shape : Option MeasureReason) (places : List ℕ) (i symbol before : ℕ) (reason : Option MeasureReason) : Type 0 where
  pub front : Front f rs i symbol
  pub before_is : before ≡ length (unraveled_rules f (take i (map rule_view rs)))
  pub reason_is : ReasonAnswers shape places (unraveled_rules f (take i (map rule_view rs))) reason

module _ (f : ℕ) (rs : List Rule) (shape : Option MeasureReason) (places : List ℕ) where
  pub walk_begin : Walk f rs shape places 0 f 0 shape
  walk_begin = record { front = front_begin f rs; before_is = refl; reason_is = go shape }
    where
      go : (s : Option MeasureReason) → ReasonAnswers s places [] s
      go (Some s) = refl
      go None = λ j q at. absurd (cc)

  pub walk_finish : (i symbol before : ℕ) (reason : Option MeasureReason) → Walk f rs shape places i symbol before reason → length rs ≤ i
      → RulesReasonAnswers f (map rule_view rs) shape places (Ok reason)
  walk_finish i symbol before reason w le =
      let all = front_all rs i le in
      (subst (λ z. DoSidesFit (unraveled_rules f z)) all w.front.fit, subst (λ z. ReasonAnswers shape places (unraveled_rules f z) reason) all w.reason_is)

  module _ (i symbol before : ℕ) (reason : Option MeasureReason) (r : Rule) (made : List Rule) (w : Walk f rs shape places i symbol before reason) (less : i < length rs) (is : r ≡ get_or rs i r)
      (made_is : map rule_view made ≡ unraveled_rule symbol (rule_view r)) where
    next_rules : unraveled_rules f (take (i + 1) (map rule_view rs)) ≡ unraveled_rules f (take i (map rule_view rs)) ++ map rule_view made
    next_rules = front_rules f rs i symbol r w.front less is ∙ ap (λ qs. unraveled_rules f (take i (map rule_view rs)) ++ qs) (sym made_is)

    next_count : length (unraveled_rules f (take (i + 1) (map rule_view rs))) ≡ before + length made
    next_count =
        let here = w.before_is in
        let same = ap length next_rules in
        let both = length-append (unraveled_rules f (take i (map rule_view rs))) (map rule_view made) in
        let many = length-map made rule_view in
        omega (arith, here, same, both, many)

    pub walk_room : before + length made ≤ length rs + condition_count (map rule_view rs)
    walk_room =
        let next = next_count in
        let several = length-rules f (take (i + 1) (map rule_view rs)) in
        let conditions = count_within (map rule_view rs) (i + 1) in
        let taken = length-take (i + 1) (map rule_view rs) in
        let many = length-map rs rule_view in
        omega (arith, next, several, conditions, taken, many)

    pub walk_next : (after : Option MeasureReason) → DoSidesFit (unraveled_rule symbol (rule_view r))
        → ((s : Option MeasureReason) (front : List math.Rule) → length front ≡ before → ReasonAnswers s places front reason → ReasonAnswers s places (front ++ map rule_view made) after)
        → Walk f rs shape places (i + 1) (symbol + length r.conds.items) (before + length made) after
    walk_next after fits step =
        record {
          front = front_next f rs i symbol r w.front less is fits;
          before_is = sym next_count;
          reason_is = subst (λ qs. ReasonAnswers shape places qs after) (sym next_rules) (step shape (unraveled_rules f (take i (map rule_view rs))) (sym w.before_is) w.reason_is);
        }

pub of_system : (sys : math.System) (f : ℕ) (rs : List Rule) (shape : Option MeasureReason) (places : List ℕ) (result : Result (Option MeasureReason) UnravelError)
    → map rule_view rs ≡ sys.rules → f ≡ length sys.arities
    → RulesReasonAnswers f (map rule_view rs) shape places result → FirstReasonAnswers sys shape places result
of_system sys f rs shape places result rules_are first h =
    go result (subst (λ n. RulesReasonAnswers n sys.rules shape places result) first (subst (λ qs. RulesReasonAnswers f qs shape places result) rules_are h))
  where
    go : (r : Result (Option MeasureReason) UnravelError) → RulesReasonAnswers (length sys.arities) sys.rules shape places r → FirstReasonAnswers sys shape places r
    go (Ok reason) (fit, found) = (all_fit sys fit, found)
    go (Err (TooLarge rule)) large = first_large sys rule large
    go (Err NoMemory) h = tt

-- the judgement
module _ (sys : math.System) (order : Precedence) (places : List ℕ) where
  pub judged_good : (shape : Option MeasureReason) → ShapeAnswers sys order places shape → DoesUnravelingFit sys → ReasonAnswers shape places (unraveled sys).rules None
      → IsPrecedenceJudged sys order good
  judged_good (Some s) h fit e = absurd (cc)
  judged_good None (a, none) fit u = (fit, record { precedence = whole sys order places a none; rules = all_ordered sys order places a u })

  pub judged_not : (shape : Option MeasureReason) (reason : MeasureReason) → ShapeAnswers sys order places shape → DoesUnravelingFit sys
      → ReasonAnswers shape places (unraveled sys).rules (Some reason)
      → IsPrecedenceJudged sys order (not_good (measure_reason_view reason))
  judged_not (Some s) reason h fit e = let same : s ≡ reason = cc in subst (λ z. IsPrecedenceJudged sys order (not_good (measure_reason_view z))) same (h fit)
  judged_not None reason (a, none) fit (i, e, u) =
      subst (λ z. IsPrecedenceJudged sys order (not_good (measure_reason_view z))) (sym e) (fit, whole sys order places a none, first_unordered sys order places a i u)
