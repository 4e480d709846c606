-- No part is an instance of a pattern, by positions.
use Rattle.std.proofs.Common.{◌≡◌, ℕ, zero, suc, List, [], ◌∷◌, Some, option_and_then, slice_get, refl, subst}
use Rattle.rewriting.specs.Prelude.{Term, Terms, var, app, nil, cons, Position, argument, subterm, Matches, Rule, System, IsNormalForm}
use Rattle.term_core.proofs.Arguments.{argument_zero}
use Rattle.matching.specs.Lists.{HasNoInstance, NoneHasInstance, HaveNoInstance}

module _ (l : Term) where
  mutual
    nowhere : (t : Term) (p : Position) (u : Term) → HasNoInstance l t → subterm t p ≡ Some u → Matches l u → ⊥
    nowhere (var x) [] u h e m = h (subst (Matches l) (let same : u ≡ var x = cc in same) m)
    nowhere (var x) (k ∷ p) u h e m = cc
    nowhere (app f ts) [] u h e m = h.0 (subst (Matches l) (let same : u ≡ app f ts = cc in same) m)
    nowhere (app f ts) (k ∷ p) u h e m = nowhere_in ts k p u h.1 e m

    nowhere_in : (ts : Terms) (k : ℕ) (p : Position) (u : Term) → NoneHasInstance l ts → option_and_then (λ s. subterm s p) (argument ts k) ≡ Some u → Matches l u → ⊥
    nowhere_in nil k p u h e m = cc
    nowhere_in (cons t ts) zero p u h e m = cc
    nowhere_in (cons t ts) (suc zero) p u h e m = nowhere t p u h.0 e m
    nowhere_in (cons t ts) (suc (suc k)) p u h e m = nowhere_in ts (suc k) p u h.1 e m

  -- for each argument, by its number
  abbrev NoneAt : Terms → Type 0
  NoneAt ts = (k : ℕ) (p : Position) (u : Term) → option_and_then (λ s. subterm s p) (argument ts k) ≡ Some u → Matches l u → ⊥

  rest_at : (t : Term) (ts : Terms) → NoneAt (cons t ts) → NoneAt ts
  rest_at t ts h zero p u e m = (let none = argument_zero ts in cc)
  rest_at t ts h (suc k) p u e m = h (suc (suc k)) p u e m

  mutual
    everywhere : (t : Term) → ((p : Position) (u : Term) → subterm t p ≡ Some u → Matches l u → ⊥) → HasNoInstance l t
    everywhere (var x) h = h [] (var x) refl
    everywhere (app f ts) h = (h [] (app f ts) refl, everywhere_in ts (λ k p u e m. h (k ∷ p) u e m))

    everywhere_in : (ts : Terms) → NoneAt ts → NoneHasInstance l ts
    everywhere_in nil h = tt
    everywhere_in (cons t ts) h = (everywhere t (λ p u e m. h 1 p u e m), everywhere_in ts (rest_at t ts h))

rule_has_none : (rs : List Rule) (t : Term) (i : ℕ) (r : Rule) → HaveNoInstance rs t → slice_get rs i ≡ Some r → HasNoInstance r.left t
rule_has_none [] t i r h e = cc
rule_has_none (q ∷ rs) t zero r h e = subst (λ z. HasNoInstance z.left t) (let same : q ≡ r = cc in same) h.0
rule_has_none (q ∷ rs) t (suc i) r h e = rule_has_none rs t i r h.1 e

rules_have_none : (rs : List Rule) (t : Term) → ((i : ℕ) (r : Rule) → slice_get rs i ≡ Some r → HasNoInstance r.left t) → HaveNoInstance rs t
rules_have_none [] t h = tt
rules_have_none (r ∷ rs) t h = (h 0 r refl, rules_have_none rs t (λ i q e. h (suc i) q e))

pub normal_from : (sys : System) (t : Term) → HaveNoInstance sys.rules t → IsNormalForm sys t
normal_from sys t h p u zero r e at m = cc
normal_from sys t h p u (suc i) r e at m = nowhere r.left t p u (rule_has_none sys.rules t i r h at) e m

pub normal_to : (sys : System) (t : Term) → IsNormalForm sys t → HaveNoInstance sys.rules t
normal_to sys t h = rules_have_none sys.rules t (λ i r e. everywhere r.left t (λ p u s m. h p u (suc i) r s e m))
