-- Values for the variables without one, and the instances of conditions.
use Rattle.std.proofs.Common.{ℕ, ◌≡◌, ◌⊎◌, inl, inr, ◌+◌, ◌<◌, ◌≤◌, Bool, true, false, cond, Option, None, Some, unwrap_or, option_map, List, [], ◌∷◌, map, length, drop}
use Rattle.std.proofs.Common.{nat_cmp, refl, sym, ap, ap₂, ◌∙◌, subst, arith, Result, Ok, Err, OnOk}
use Rattle.std.specs.Ordering.{eq_by_cmp}
use Rattle.std.proofs.lemmas.Bool.{cases_lt, or_right, or_left}
use Rattle.std.proofs.lemmas.List.{length-map, drop_all}
use Rattle.std.specs.Cmp.{nat_cmp_total}
use Rattle.std.specs.FinMap.{get, insert, get-insert}
use Rattle.rewriting.specs.Prelude.{terms_of_rule, rule_variables, conditions_under}
use Rattle.rewriting.proofs.Common.{Term, var, Substitution, Bindings, values_of, occurs, occurs_in, Condition, System, sides, Signature}
use Rattle.rewriting.proofs.Instances.{apply-agree}
use Rattle.rewriting.proofs.Variables.{variables_have_all}
use Rattle.rewriting.proofs.Lists.{counted_below}
use Rattle.rewriting.proofs.Conditions.{length-conditions_under}
use Rattle.certificates.specs.Prelude.{DoConditionsFit, InfeasibilityEvidence}
use Rattle.term_core.specs.Prelude.{condition_view, rule_view}
use Rattle.term_core.specs.SystemView.{IsSound}
use Rattle.term_core.specs.declared.systems.Cond as program_cond
use Rattle.term_core.specs.declared.systems.Rule as program
use Rattle.certificates.proofs.Sizes.{conditions_fit}
use Rattle.cert_model.specs.ReasonView.{evidence_reason_view}
use Rattle.rewriting.proofs.Finite.{key_is, same_key}
use Rattle.refuter.specs.Answers.{RefutesAnswers}
use Rattle.refuter.specs.declared.Refusal.{Refusal}
use Rattle.refuter.specs.declared.Refusal.TheVariants.{Reason, NoMemory}
use Rattle.judged_evidence.specs.Evidence.{IsInfeasibilityJudged}
use Rattle.redex_conditions.specs.Judged.{value_or_new, match_or_new, AreJudged}

other_key : (x y : ℕ) → (x ≡ y → ⊥) → eq_by_cmp nat_cmp x y ≡ false
other_key x y h = go (eq_by_cmp nat_cmp x y) refl
  where
    go : (b : Bool) → eq_by_cmp nat_cmp x y ≡ b → eq_by_cmp nat_cmp x y ≡ false
    go true e = absurd (h (key_is x y true e refl))
    go false e = e

-- the variables below k have values, the others are as before
pub record IsCompleted (n : ℕ) (before after : Bindings) (k : ℕ) : Type 0 where
  pub done : (x : ℕ) → x < k → get after x ≡ Some (value_or_new n x (get before x))
  pub behind : (x : ℕ) → k ≤ x → get after x ≡ get before x

module _ (n : ℕ) (a b : Bindings) (k : ℕ) (h : IsCompleted n a b k) where
  -- one more
  pub completed_more : (c : Bindings) → get c k ≡ Some (value_or_new n k (get b k)) → ((x : ℕ) → (x ≡ k → ⊥) → get c x ≡ get b x) → IsCompleted n a c (k + 1)
  completed_more c here others = record { done = done; behind = λ x l. others x (λ e. omega (arith, l, e)) ∙ h.behind x (omega (arith, l)) }
    where
      at_k : get c k ≡ Some (value_or_new n k (get a k))
      at_k = here ∙ ap (λ o. Some (value_or_new n k o)) (h.behind k (omega arith))

      done : (x : ℕ) → x < k + 1 → get c x ≡ Some (value_or_new n x (get a x))
      done x l = go (cases_lt x k)
        where
          go : (x < k) ⊎ (k ≤ x) → get c x ≡ Some (value_or_new n x (get a x))
          go (inl less) = others x (λ e. omega (arith, less, e)) ∙ h.done x less
          go (inr more) = let same : k ≡ x = omega (arith, l, more) in subst (λ y. get c y ≡ Some (value_or_new n y (get a y))) same at_k

pub new_here : {T E X : Type 0} (r : Result T E) (f : X → Term) (o : Option X) (b c : Bindings) (n k : ℕ) (u : Term) → u ≡ var (n + k) → option_map f o ≡ get b k → o ≡ None → OnOk r (c ≡ insert b k u)
    → OnOk r (get c k ≡ Some (value_or_new n k (get b k)))
new_here (Err e) f o b c n k u new same none is = is
new_here (Ok x) f o b c n k u new same none is =
    let free : get b k ≡ None = sym same ∙ ap (option_map f) none in
    ap (λ m. get m k) is ∙ get-insert nat_cmp_total b k u k ∙ ap (λ q. cond q (Some u) (get b k)) (same_key k k refl) ∙ ap Some new
    ∙ ap (λ q. Some (value_or_new n k q)) (sym free)

others_kept : (b c : Bindings) (k : ℕ) (u : Term) → c ≡ insert b k u → (x : ℕ) → (x ≡ k → ⊥) → get c x ≡ get b x
others_kept b c k u is x d = ap (λ m. get m x) is ∙ get-insert nat_cmp_total b k u x ∙ ap (λ q. cond q (Some u) (get b x)) (other_key x k d)

pub new_others : {T E : Type 0} (r : Result T E) (b c : Bindings) (k : ℕ) (u : Term) → OnOk r (c ≡ insert b k u) → OnOk r ((x : ℕ) → (x ≡ k → ⊥) → get c x ≡ get b x)
new_others (Err e) b c k u is = is
new_others (Ok y) b c k u is = others_kept b c k u is

-- conditions under substitutions that agree on their variables
pub conditions_agree : (s t : Substitution) (cs : List Condition) → ((x : ℕ) → occurs_in x (sides cs) ≡ true → s x ≡ t x) → conditions_under s cs ≡ conditions_under t cs
conditions_agree s t [] h = refl
conditions_agree s t (c ∷ cs) h =
    ap₂ (λ (d : Condition) (ds : List Condition). d ∷ ds)
    (ap₂ (λ (l r : Term). record { left = l; right = r }) (apply-agree s t c.left (λ x o. h x (or_left _ _ o))) (apply-agree s t c.right (λ x o. h x (or_right (occurs x c.left) _ (or_left _ _ o)))))
    (conditions_agree s t cs (λ x o. h x (or_right (occurs x c.left) _ (or_right (occurs x c.right) _ o))))

module _ (arities : Signature) (r : program.Rule) (sound : IsSound arities r) where
  pub rule_fits : DoConditionsFit (map condition_view r.conds.items)
  rule_fits = conditions_fit (map condition_view r.conds.items) sound.rule.fits.1.1

  pub side_below : (x : ℕ) → occurs_in x (sides (map condition_view r.conds.items)) ≡ true → x < r.vars
  side_below x o =
      let in_rule = or_right (occurs x (rule_view r).left) _ (or_right (occurs x (rule_view r).right) _ o) in
      let low = counted_below 0 (rule_variables (rule_view r)) x sound.rule.numbered (variables_have_all x [] (terms_of_rule (rule_view r)) in_rule) in
      let is = sound.counted in
      omega (arith, low, is)

  pub few_instances : (s : Substitution) (ds items : List program_cond.Cond) → items ≡ r.conds.items → map condition_view ds ≡ conditions_under s (map condition_view items) → length ds ≤ 200
  few_instances s ds items value is =
      let one = sym (length-map ds condition_view) ∙ ap length is ∙ length-conditions_under s (map condition_view items) ∙ ap (λ z. length (map condition_view z)) value in
      let few = sound.rule.few_conditions in
      omega (arith, one, few)

  -- completed values are those of the match, and new variables
  pub completed_conditions : (n : ℕ) (before after : Bindings) → ((k : ℕ) → k < r.vars → get after k ≡ Some (value_or_new n k (get before k)))
      → conditions_under (values_of after) (map condition_view r.conds.items) ≡ conditions_under (match_or_new n before) (map condition_view r.conds.items)
  completed_conditions n before after h =
      conditions_agree (values_of after) (match_or_new n before) (map condition_view r.conds.items) (λ x o. ap (λ q. unwrap_or q (var x)) (h x (side_below x o)))

-- what is answered for conditions that fit
pub judged_fitting : (sys : System) (ds : List program_cond.Cond) (cs : List Condition) (e : InfeasibilityEvidence) (a : Result (Unit {0}) Refusal) → map condition_view ds ≡ cs → DoConditionsFit cs
    → RefutesAnswers (IsInfeasibilityJudged sys (map condition_view ds) e) a → RefutesAnswers (AreJudged sys cs e) a
judged_fitting sys ds cs e (Ok u) is fit h = inl (fit, subst (λ z. IsInfeasibilityJudged sys z e None) is h)
judged_fitting sys ds cs e (Err (Reason reason)) is fit h = inl (fit, subst (λ z. IsInfeasibilityJudged sys z e (Some (evidence_reason_view reason))) is h)
judged_fitting sys ds cs e (Err NoMemory) is fit h = tt

-- nothing is left behind the end
pub drop_end : {A : Type 0} (xs : List A) (i : ℕ) → length xs ≤ i → drop i xs ≡ []
drop_end xs i h = drop_all i xs h
