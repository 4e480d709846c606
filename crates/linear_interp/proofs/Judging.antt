-- From sums to the judgement of a rule, and from rules to all rules.
use Rattle.std.proofs.Common.{◌≡◌, ℕ, zero, suc, ◌+◌, ◌-◌, ◌*◌, ◌^◌, ◌<◌, ◌≤◌, ◌⊎◌, inl, inr, refl, sym, ap, subst, List, [], ◌∷◌, map, length, get_or}
use Rattle.std.proofs.Common.{slice_get, Option, Some, None, Result, Ok, Err, Vec, Global, arith}
use Rattle.std.proofs.lemmas.List.{length-map}
use Rattle.std.proofs.lemmas.Bool.{cases_lt}
use Rattle.std.proofs.lemmas.Option.{slice_get_within}
use Rattle.general_lemmas.proofs.Numbers.{not_counted}
use Rattle.general_lemmas.proofs.Places.{slice_get-map_read}
use Rattle.rewriting.specs.Terms.{Term, var, app, Terms, nil, cons}
use Rattle.rewriting.specs.Rules as math
use Rattle.interpretations.specs.Linear.{Interpretation, number_of, coefficient, coefficient_from, Falls, Overflows, IsLarge, HasLargePart}
use Rattle.term_core.specs.Prelude.{view, rule_view}
use Rattle.term_core.specs.declared.systems.Rule.{Rule}
use Rattle.cert_model.specs.declared.reasons.MeasureReason.TheVariants as reason
use Rattle.measure.specs.declared.MeasureError.{MeasureError}
use Rattle.measure.specs.declared.MeasureError.TheVariants.{Reason, Unraveling, NoMemory}
use Rattle.linear_interp.specs.Parts.{part, IsReady, AreReady, ArePartsOf, SumsAnswers}
use Rattle.linear_interp.specs.Falling.{SmallerAnswers, SumsDecide, IsSideReady, IsRuleReady, AreRulesReady, RuleAnswers, RulesAnswers}

-- a variable that is not below the number does not occur
mutual
  beyond : (es : Interpretation) (n x : ℕ) (t : Term) → IsReady es n t → n ≤ suc x → coefficient es x t ≡ 0
  beyond es n x (var y) h le = not_counted x y (λ same. omega (arith, same, h, le))
  beyond es n x (app f ts) h le = beyond_from es n x f 1 ts h.3 le

  beyond_from : (es : Interpretation) (n x f k : ℕ) (ts : Terms) → AreReady es n ts → n ≤ suc x → coefficient_from es x f k ts ≡ 0
  beyond_from es n x f k nil h le = refl
  beyond_from es n x f k (cons t ts) h le =
      let a = ap (λ z. number_of es f k * z) (beyond es n x t h.0 le) in let b = beyond_from es n x f (suc k) ts h.1 le in omega (arith, a, b)

-- sums within the limit show no large part
not_large : (es : Interpretation) (n : ℕ) (t : Term) (xs : List ℕ) → IsSideReady es n t → ArePartsOf es (n + 1) t xs → HasLargePart es t → ⊥
not_large es n t xs ready parts h = by_case (ready.shows h)
  where
    by_case : IsLarge es t → ⊥
    by_case (inl lt) = let p = parts.parts 0 (omega arith) in let s = parts.small 0 in omega (arith, lt, p, s)
    by_case (inr (x, lt)) = by_place x lt (cases_lt (suc x) (n + 1))
      where
        by_place : (x : ℕ) → 2 ^ 100 < coefficient es x t → (suc x < n + 1) ⊎ (n + 1 ≤ suc x) → ⊥
        by_place x lt (inl below) = let p = parts.parts (suc x) below in let s = parts.small (suc x) in omega (arith, lt, p, s)
        by_place x lt (inr more) = let z = beyond es (n + 1) x t ready.ready more in omega (arith, lt, z)

large_at_root : (es : Interpretation) (t : Term) (n : ℕ) → (i : ℕ) × (i < n) × (2 ^ 100 < part es i t) → HasLargePart es t
large_at_root es t n (zero, lt, above) = ([], t, refl, inl above)
large_at_root es t n (suc x, lt, above) = ([], t, refl, inr (x, above))

pub overflows_left : (es : Interpretation) (r : math.Rule) (n : ℕ) (v : Option (Vec ℕ Global)) → v ≡ None → SumsAnswers es n r.left v → Overflows es r
overflows_left es r n None e h = inl (large_at_root es r.left n h)
overflows_left es r n (Some v) e h = cc

pub overflows_right : (es : Interpretation) (r : math.Rule) (n : ℕ) (v : Option (Vec ℕ Global)) → v ≡ None → SumsAnswers es n r.right v → Overflows es r
overflows_right es r n None e h = inr (large_at_root es r.right n h)
overflows_right es r n (Some v) e h = cc

-- what the sums decide
pub decided : (es : Interpretation) (r : Rule) (number : ℕ) (left right : List ℕ) (result : Result (Unit {0}) MeasureError) → IsRuleReady es r
    → ArePartsOf es (r.vars + 1) (view r.left) left → ArePartsOf es (r.vars + 1) (view r.right) right
    → SumsDecide left right number result → RuleAnswers es (rule_view r) number result
decided es r number left right result ready pl pr d = by_result result d
  where
    n : ℕ
    n = r.vars + 1

    bounded : Overflows es (rule_view r) → ⊥
    bounded (inl h) = not_large es r.vars (view r.left) left ready.left pl h
    bounded (inr h) = not_large es r.vars (view r.right) right ready.right pr h

    kept_at : (y : ℕ) → get_or right (suc y) 0 ≤ get_or left (suc y) 0 → suc y < r.vars + 1 → coefficient es y (view r.right) ≤ coefficient es y (view r.left)
    kept_at y le lt = let a = pl.parts (suc y) lt in let b = pr.parts (suc y) lt in omega (arith, le, a, b)

    kept : SmallerAnswers left right None → (y : ℕ) → coefficient es y (view r.right) ≤ coefficient es y (view r.left)
    kept h y = by_place (cases_lt (suc y) (r.vars + 1))
      where
        by_place : (suc y < r.vars + 1) ⊎ (r.vars + 1 ≤ suc y) → coefficient es y (view r.right) ≤ coefficient es y (view r.left)
        by_place (inl lt) = let long = pl.as_many in kept_at y (h y (omega (arith, long, lt))) lt
        by_place (inr more) = let z = beyond es (r.vars + 1) y (view r.right) ready.right.ready more in omega (arith, z)

    by_result : (result : Result (Unit {0}) MeasureError) → SumsDecide left right number result → RuleAnswers es (rule_view r) number result
    by_result (Ok u) h = record {
      bounded = bounded;
      coefficients = kept h.0;
      constants = (let a = pl.parts 0 (omega arith) in let b = pr.parts 0 (omega arith) in
          let c = h.1 in omega (arith, a, b, c));
    }
    by_result (Err (Reason (reason.Variable m x))) h =
        let long = pl.as_many in
        let here = h.1.0 in
        let lt : suc x < r.vars + 1 = omega (arith, long, here) in
        let a = pl.parts (suc x) lt in
        let b = pr.parts (suc x) lt in
        let c = h.1.1 in
        (h.0, (bounded, omega (arith, a, b, c), λ y less. kept_at y (h.1.2 y less) (omega (arith, less, lt))))
    by_result (Err (Reason (reason.Constant m))) h =
        (h.0, (bounded, kept h.1, (let a = pl.parts 0 (omega arith) in let b = pr.parts 0 (omega arith) in let c = h.2 in omega (arith, a, b, c))))
    by_result (Err NoMemory) h = tt
    by_result _ h = absurd h

-- a rule of ready ones
pub ready_rule : (es : Interpretation) (rs : List Rule) (i : ℕ) (r : Rule) → AreRulesReady es rs → i < length rs → r ≡ get_or rs i r → IsRuleReady es r
ready_rule es [] i r h lt is = absurd (omega (arith, lt))
ready_rule es (q ∷ rs) zero r h lt is = subst (IsRuleReady es) (sym is) h.0
ready_rule es (q ∷ rs) (suc i) r h lt is = ready_rule es rs i r h.1 (omega (arith, lt)) is

-- all rules before a place have a property
abbrev pub HoldsBefore : (math.Rule → Type 0) → List Rule → ℕ → Type 0
HoldsBefore P rs i = (j : ℕ) (r : math.Rule) → j < i → slice_get (map rule_view rs) j ≡ Some r → P r

-- all rules before a place fall
abbrev pub DoFallBefore : Interpretation → List Rule → ℕ → Type 0
DoFallBefore es = HoldsBefore (Falls es)

module _ (P : math.Rule → Type 0) (rs : List Rule) (i : ℕ) where
  pub one_more : (r : Rule) → HoldsBefore P rs i → i < length rs → r ≡ get_or rs i r → P (rule_view r) → HoldsBefore P rs (i + 1)
  one_more r before lt is holds j q less at = by_case (cases_lt j i)
    where
      by_case : (j < i) ⊎ (i ≤ j) → P q
      by_case (inl h) = before j q h at
      by_case (inr h) =
          let same : i ≡ j = omega (arith, h, less) in
          let there : slice_get (map rule_view rs) j ≡ Some (rule_view r) = subst (λ k. slice_get (map rule_view rs) k ≡ Some (rule_view r)) same (slice_get-map_read rule_view rs i r lt is) in
          let rule : rule_view r ≡ q = cc in
          subst P rule holds

  pub all_hold : HoldsBefore P rs i → length rs ≤ i → (j : ℕ) (r : math.Rule) → slice_get (map rule_view rs) j ≡ Some r → P r
  all_hold before le j r at = let within = slice_get_within (map rule_view rs) j r at in let many = length-map rs rule_view in before j r (omega (arith, within, many, le)) at

pub failed : (es : Interpretation) (rs : List Rule) (i : ℕ) (r : Rule) (error : MeasureError) → DoFallBefore es rs i → i < length rs → r ≡ get_or rs i r
    → RuleAnswers es (rule_view r) (i + 1) (Err error) → RulesAnswers es (map rule_view rs) (Err error)
failed es rs i r (Reason (reason.Overflow n)) before lt is h = record {
  place = i;
  is_number = (let a = h.0 in omega (arith, a));
  rule = rule_view r;
  is_rule = slice_get-map_read rule_view rs i r lt is;
  before = before;
  here = h.1;
}
failed es rs i r (Reason (reason.Variable n x)) before lt is h =
    record { place = i; is_number = (let a = h.0 in omega (arith, a)); rule = rule_view r; is_rule = slice_get-map_read rule_view rs i r lt is; before = before; here = h.1 }
failed es rs i r (Reason (reason.Constant n)) before lt is h =
    record { place = i; is_number = (let a = h.0 in omega (arith, a)); rule = rule_view r; is_rule = slice_get-map_read rule_view rs i r lt is; before = before; here = h.1 }
failed es rs i r (Reason (reason.Shape n)) before lt is h = absurd h
failed es rs i r (Reason (reason.Coefficient n)) before lt is h = absurd h
failed es rs i r (Reason (reason.Order n)) before lt is h = absurd h
failed es rs i r (Unraveling n) before lt is h = absurd h
failed es rs i r NoMemory before lt is h = tt

pub smaller_here : (left right : List ℕ) (x : ℕ) → 1 ≤ x → x < length left → get_or left x 0 < get_or right x 0
    → ((y : ℕ) → suc y < x → get_or right (suc y) 0 ≤ get_or left (suc y) 0) → SmallerAnswers left right (Some (x - 1))
smaller_here left right zero le lt less before = absurd (omega (arith, le))
smaller_here left right (suc k) le lt less before = let e : k ≡ suc k - 1 = omega arith in subst (λ n. SmallerAnswers left right (Some n)) e (lt, less, λ y h. before y (omega (arith, h)))
