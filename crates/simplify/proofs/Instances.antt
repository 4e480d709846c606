-- The parts of a rule with a condition inlined_rule.
use Rattle.std.proofs.Common.{◌≡◌, ℕ, suc, ◌+◌, ◌-◌, ◌<◌, ◌≤◌, ◌^◌, Bool, true, false, cond, refl, sym, ap, ◌∙◌, subst, List, [], ◌∷◌, ◌++◌, length, map, take, drop, get_or}
use Rattle.std.proofs.Common.{slice_get, Some, Err, nat_eq, eqb-true, eq-eqb, nat_cmp, unwrap_or, if◌then◌else◌, arith}
use Rattle.std.specs.Ordering.{eq_by_cmp}
use Rattle.std.specs.Cmp.{nat_cmp_total}
use Rattle.std.specs.FinMap.{get, insert, empty, get-insert, get-empty}
use Rattle.std.proofs.lemmas.List.{length-map}
use Rattle.general_lemmas.proofs.Places.{slice_get-map_read}
use Rattle.rewriting.specs.Rules as math
use Rattle.rewriting.specs.Prelude.{sides, Bindings, apply, values_of, Each, terms_of_rule, rule_variables, Fits, var, replacing}
use Rattle.rewriting.specs.Terms as terms
use Rattle.rewriting.proofs.Finite.{key_is, same_key}
use Rattle.rewriting.proofs.Instances.{apply-agree}
use Rattle.rewriting.proofs.Once.{same_some}
use Rattle.term_core.specs.Prelude.{view, condition_view, rule_view, ApplyAnswers}
use Rattle.term_core.specs.declared.terms.Term.{Term}
use Rattle.term_core.specs.declared.systems.Cond.{Cond}
use Rattle.term_core.specs.declared.systems.Rule.{Rule}
use Rattle.term_core.specs.declared.terms.TermError.{TermError}
use Rattle.term_core.specs.declared.terms.TermError.TheVariants.{NoPosition, TooLarge, NoMemory}
use Rattle.simplifications.specs.Inlining.{left_under, inlined_rule, numbered}
use Rattle.simplifications.proofs.Parts.{each_append, each_front, each_behind, length_without}
use Rattle.simplifications.proofs.Rules.{split_at}
use Rattle.simplifications.proofs.Systems.{few_variables_of}
use Rattle.simplify.specs.Rules.{rule_of}
use Rattle.simplify.specs.Inlining.{CondsAnswers, InlinedAnswers}
use Rattle.simplify.proofs.Slices.{front_view, rest_view}

abbrev pub unbound : Bindings
unbound = empty

-- one binding puts a term for a variable
one_binding : (x : ℕ) (s : terms.Term) (y : ℕ) → values_of (insert unbound x s) y ≡ replacing x s y
one_binding x s y = ap (λ o. unwrap_or o (var y)) (get-insert nat_cmp_total unbound x s y) ∙ go (eq_by_cmp nat_cmp y x) refl (nat_eq y x) refl
  where
    go : (a : Bool) → eq_by_cmp nat_cmp y x ≡ a → (b : Bool) → nat_eq y x ≡ b → unwrap_or (cond a (Some s) (get unbound y)) (var y) ≡ (if b then s else var y)
    go true p true q = refl
    go true p false q = (let bad : true ≡ false = sym (eq-eqb y x (key_is y x true p refl)) ∙ q in absurd (cc))
    go false p true q = (let bad : true ≡ false = sym (same_key y x (eqb-true y x q)) ∙ p in absurd (cc))
    go false p false q = ap (λ o. unwrap_or o (var y)) (get-empty nat_cmp y)

-- from what the calls tell
pub bound_once : (x : ℕ) (b old : Bindings) (s t : terms.Term) → b ≡ insert old x s → old ≡ unbound → s ≡ t → b ≡ insert unbound x t
bound_once x b old s t e f g = e ∙ ap (λ z. insert z x s) f ∙ ap (λ z. insert unbound x z) g

module _ (r : Rule) (k x : ℕ) (c : Cond) (inside : k < length r.conds.items) (at : c ≡ get_or r.conds.items k c) (b : Bindings) (bound : b ≡ insert unbound x (view c.left)) where
  abbrev cs : List math.Condition
  cs = map condition_view r.conds.items

  here : slice_get cs k ≡ Some (condition_view c)
  here = slice_get-map_read condition_view r.conds.items k c inside at

  same_value : (t : terms.Term) → apply (values_of b) t ≡ apply (replacing x (view c.left)) t
  same_value t = apply-agree (values_of b) (replacing x (view c.left)) t (λ y o. ap (λ z. values_of z y) bound ∙ one_binding x (view c.left) y)

  same_lefts : (ds : List math.Condition) → map (left_under (values_of b)) ds ≡ map (left_under (replacing x (view c.left))) ds
  same_lefts [] = refl
  same_lefts (d ∷ ds) = ap (λ z. (record { left = z; right = d.right }) ∷ map (left_under (values_of b)) ds) (same_value d.left)
      ∙ ap (λ z. left_under (replacing x (view c.left)) d ∷ z) (same_lefts ds)

  abbrev rest : List math.Condition
  rest = map condition_view (take (length r.conds.items - (k + 1)) (drop (k + 1) r.conds.items))

  rest_is : rest ≡ drop (suc k) cs
  rest_is = rest_view condition_view r.conds.items k

  -- whichever condition stands there
  that_one : (P : math.Condition → Type 0) → P (condition_view c) → (d : math.Condition) → slice_get cs k ≡ Some d → P d
  that_one P p d e = subst P (same_some (slice_get cs k) (condition_view c) d here e) p

  pub large_right : (e : TermError) → ApplyAnswers (apply (values_of b) (view r.right)) (Err e) → InlinedAnswers (rule_view r) k x (Err e)
  large_right NoPosition h = h
  large_right TooLarge h = that_one (λ d. Each Fits (terms_of_rule (inlined_rule (rule_view r) k d.left x)) → ⊥) (λ f. h (subst Fits (sym (same_value (view r.right))) f.1.0))
  large_right NoMemory h = tt

  pub large_conds : (old new : List math.Condition) (e : TermError) → CondsAnswers b rest old new (Err e) → InlinedAnswers (rule_view r) k x (Err e)
  large_conds old new NoPosition h = h
  large_conds old new TooLarge h =
      that_one (λ d. Each Fits (terms_of_rule (inlined_rule (rule_view r) k d.left x)) → ⊥)
      (λ f. h (subst (λ z. Each Fits (sides z)) (sym (ap (map (left_under (values_of b))) rest_is ∙ same_lefts (drop (suc k) cs)))
      (each_behind Fits (take k cs) (map (left_under (replacing x (view c.left))) (drop (suc k) cs)) f.1.1)))
  large_conds old new NoMemory h = tt

  pub rest_fit : Each Fits (terms_of_rule (rule_view r)) → Each Fits (sides rest)
  rest_fit f =
      let whole = subst (λ z. Each Fits (sides z)) (split_at cs k (condition_view c) here) f.1.1 in
      subst (λ z. Each Fits (sides z)) (sym rest_is) (each_behind Fits (take k cs) (condition_view c ∷ drop (suc k) cs) whole).1.1

  -- the rule is made
  module _ (fits : Each Fits (terms_of_rule (rule_view r))) (few : length r.conds.items ≤ 100) (right : Term) (answer : (view right ≡ apply (values_of b) (view r.right)) × Fits (view right))
      (one two : List Cond) (none : one ≡ [])
      (second : (map condition_view two ≡ map condition_view one ++ map (left_under (values_of b)) rest) × Each Fits (sides (map (left_under (values_of b)) rest))) where
    abbrev front : List math.Condition
    front = map condition_view (take k r.conds.items)

    abbrev made : math.Rule
    made = inlined_rule (rule_view r) k (view c.left) x

    lefts : map (left_under (values_of b)) rest ≡ map (left_under (replacing x (view c.left))) (drop (suc k) cs)
    lefts = ap (map (left_under (values_of b))) rest_is ∙ same_lefts (drop (suc k) cs)

    behind_are : map condition_view two ≡ map (left_under (values_of b)) rest
    behind_are = second.0 ∙ ap (λ z. map condition_view z ++ map (left_under (values_of b)) rest) none

    conditions_are : front ++ map condition_view two ≡ made.conditions
    conditions_are =
        ap (λ z. z ++ map condition_view two) (front_view condition_view r.conds.items k) ∙ ap (λ z. take k cs ++ z) (behind_are ∙ lefts)

    pub made_is : rule_of (view r.left) (view right) (front ++ map condition_view two) ≡ made
    made_is = ap (λ z. rule_of (view r.left) z (front ++ map condition_view two)) (answer.0 ∙ same_value (view r.right))
        ∙ ap (λ z. rule_of (view r.left) (apply (replacing x (view c.left)) (view r.right)) z) conditions_are

    made_fits : Each Fits (terms_of_rule made)
    made_fits =
        let whole = subst (λ z. Each Fits (sides z)) (split_at cs k (condition_view c) here) fits.1.1 in (
          fits.0,
          (
            subst Fits (answer.0 ∙ same_value (view r.right)) answer.1,
            each_append Fits (take k cs) (map (left_under (replacing x (view c.left))) (drop (suc k) cs)) (each_front Fits (take k cs) (condition_view c ∷ drop (suc k) cs) whole)
                (subst (λ z. Each Fits (sides z)) lefts second.1),
          ),
        )

    pub made_few : length (rule_variables (rule_of (view r.left) (view right) (front ++ map condition_view two))) < 2 ^ 31
    made_few =
        let shorter = length_without (left_under (replacing x (view c.left))) cs k (condition_view c) here in
        let same = length-map r.conds.items condition_view in
        subst (λ z. length (rule_variables z) < 2 ^ 31) (sym made_is) (few_variables_of made (omega (arith, shorter, same, few)) made_fits)

    pub made_answer : (q : Rule) → rule_view q ≡ numbered (rule_of (view r.left) (view right) (front ++ map condition_view two)) → q.vars ≡ length (rule_variables (rule_view q))
        → (d : math.Condition) → slice_get cs k ≡ Some d → (rule_view q ≡ numbered (inlined_rule (rule_view r) k d.left x)) × (q.vars ≡ length (rule_variables (rule_view q)))
        × Each Fits (terms_of_rule (inlined_rule (rule_view r) k d.left x))
    made_answer q is counted =
        that_one (λ d. (rule_view q ≡ numbered (inlined_rule (rule_view r) k d.left x)) × (q.vars ≡ length (rule_variables (rule_view q)))
        × Each Fits (terms_of_rule (inlined_rule (rule_view r) k d.left x)))
        (is ∙ ap numbered made_is, counted, made_fits)
