-- Two systems that are not confluent: one whose overlap does harm, one whose right side has a new variable.
use Rattle.std.proofs.Common.{◌≡◌, ◌≢◌, ℕ, zero, suc, refl, sym, ap, ◌∙◌, subst, [], ◌∷◌, Some}
use Rattle.rewriting.specs.Prelude.{IsOver, AreValuesOver, IsConfluent, AreApart, constant, unary, plain}
use Rattle.rewriting.proofs.Common.{Star, done, more, Term, var, Position, subterm, Substitution, apply, values_of, Rule, System, rule_at, Contraction, Step, Rewrites, Reaches}
use Rattle.rewriting.proofs.Contexts.{root}
use Rattle.rewriting.proofs.Levels.{level, step_of_level}
use Rattle.level_theorem.specs.Example.{forked, loose, HarmfulOverlap, NewVariableAtRight}

-- a constant that no left side becomes has no step
module _ (sys : System) (k : ℕ) (none : (i : ℕ) (r : Rule) → rule_at sys i ≡ Some r → (s : Substitution) → apply s r.left ≡ constant k → ⊥) where
  not_inside : (p : Position) (t : Term) → subterm (constant k) p ≡ Some t → t ≡ constant k
  not_inside [] t e = cc
  not_inside (i ∷ p) t e = absurd (cc)

  no_contraction : (Many : Term → Term → Type 0) (v : Term) → Contraction Many sys (constant k) v → ⊥
  no_contraction Many v c = none c.number c.rule c.is_rule (values_of c.by) (not_inside c.position (apply (values_of c.by) c.rule.left) c.redex)

  no_step : (u v : Term) → u ≡ constant k → Rewrites sys u v → ⊥
  no_step u v e (zero, h) = h
  no_step u v e (suc n, h) = no_contraction (Star (Step sys n)) v (subst (λ z. Contraction (Star (Step sys n)) sys z v) e h)

  stays : {u w : Term} → u ≡ constant k → Reaches sys u w → w ≡ constant k
  stays e done = e
  stays e (more h p) = absurd (no_step _ _ e h)

-- a term that reaches two such constants
not_confluent : (sys : System) (t : Term) (j k : ℕ) → j ≢ k → IsOver sys.arities t → IsOver sys.arities (constant j) → IsOver sys.arities (constant k)
    → Reaches sys t (constant j) → Reaches sys t (constant k)
    → ((i : ℕ) (r : Rule) → rule_at sys i ≡ Some r → (s : Substitution) → apply s r.left ≡ constant j → ⊥)
    → ((i : ℕ) (r : Rule) → rule_at sys i ≡ Some r → (s : Substitution) → apply s r.left ≡ constant k → ⊥) → IsConfluent sys → ⊥
not_confluent sys t j k differ over first second to_first to_second none others conf =
    let w = conf t (constant j) (constant k) over first second to_first to_second in
    let one = stays sys j none refl w.2 in
    let other = stays sys k others refl w.3 in
    differ (let both : constant j ≡ constant k = sym one ∙ other in cc)

no_value : Substitution
no_value x = constant 1

forked_rule : (k i : ℕ) (r : Rule) → rule_at forked i ≡ Some r → (s : Substitution) → apply s r.left ≡ constant (suc k) → ⊥
forked_rule k zero r e s h = cc
forked_rule k (suc zero) r e s h = (let same : plain (constant 0) (constant 1) ≡ r = cc in let bad : constant 0 ≡ constant (suc k) = ap (λ z. apply s z.left) same ∙ h in cc)
forked_rule k (suc (suc zero)) r e s h = (let same : plain (constant 0) (constant 2) ≡ r = cc in let bad : constant 0 ≡ constant (suc k) = ap (λ z. apply s z.left) same ∙ h in cc)
forked_rule k (suc (suc (suc i))) r e s h = cc

loose_rule : (k i : ℕ) (r : Rule) → rule_at loose i ≡ Some r → (s : Substitution) → apply s r.left ≡ constant k → ⊥
loose_rule k zero r e s h = cc
loose_rule k (suc zero) r e s h = (let same : plain (unary 0 (var 0)) (var 1) ≡ r = cc in let bad : unary 0 (s 0) ≡ constant k = ap (λ z. apply s z.left) same ∙ h in cc)
loose_rule k (suc (suc i)) r e s h = cc

over_first : AreValuesOver (0 ∷ 0 ∷ 0 ∷ []) no_value
unfolding no_value
over_first x = (refl, tt)

to_b : level forked 1 (constant 0) (constant 1)
to_b = root record { rule = plain (constant 0) (constant 1); by = no_value; values = over_first; is_rule = (1, refl); holds = tt; left = refl; right = refl }

to_c : level forked 1 (constant 0) (constant 2)
to_c = root record { rule = plain (constant 0) (constant 2); by = no_value; values = over_first; is_rule = (2, refl); holds = tt; left = refl; right = refl }

to_b_reached : Reaches forked (constant 0) (constant 1)
to_b_reached = more (1, step_of_level forked 1 _ _ to_b) done

to_c_reached : Reaches forked (constant 0) (constant 2)
to_c_reached = more (1, step_of_level forked 1 _ _ to_c) done

-- a reaches b and c, and no term is reached from both
pub forked_apart : Reaches forked (constant 0) (constant 1) × Reaches forked (constant 0) (constant 2) × AreApart forked (constant 1) (constant 2)
forked_apart = (
  to_b_reached,
  to_c_reached,
  λ w h k. (let one = stays forked 1 (forked_rule 0) refl h in let other = stays forked 2 (forked_rule 1) refl k in
      let bad : constant 1 ≡ constant 2 = sym one ∙ other in cc),
)

pub harmful_overlap : HarmfulOverlap
harmful_overlap =
    not_confluent forked (constant 0) 1 2 (λ e. cc) (refl, tt) (refl, tt) (refl, tt) to_b_reached to_c_reached (forked_rule 0) (forked_rule 1)

over_one : AreValuesOver (1 ∷ 0 ∷ 0 ∷ []) no_value
unfolding no_value
over_one x = (refl, tt)

-- x is a, and y is a or b
two_values : Substitution
two_values zero = constant 1
two_values (suc x) = constant 2

over_both : AreValuesOver (1 ∷ 0 ∷ 0 ∷ []) two_values
unfolding two_values
over_both zero = (refl, tt)
over_both (suc x) = (refl, tt)

to_a : level loose 1 (unary 0 (constant 1)) (constant 1)
unfolding no_value
to_a = root record { rule = plain (unary 0 (var 0)) (var 1); by = no_value; values = over_one; is_rule = (1, refl); holds = tt; left = refl; right = refl }

to_other : level loose 1 (unary 0 (constant 1)) (constant 2)
unfolding two_values
to_other = root record { rule = plain (unary 0 (var 0)) (var 1); by = two_values; values = over_both; is_rule = (1, refl); holds = tt; left = refl; right = refl }

pub new_variable_at_right : NewVariableAtRight
new_variable_at_right =
    not_confluent loose (unary 0 (constant 1)) 1 2 (λ e. cc) (refl, ((refl, tt), tt)) (refl, tt) (refl, tt) (more (1, step_of_level loose 1 _ _ to_a) done)
    (more (1, step_of_level loose 1 _ _ to_other) done) (loose_rule 1)
    (loose_rule 2)
