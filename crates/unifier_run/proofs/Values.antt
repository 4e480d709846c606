-- Bindings as substitutions, and what a new one does.
use Rattle.std.proofs.Common.{ℕ, ◌≡◌, Bool, true, false, nat_eq, if◌then◌else◌, List, [], ◌∷◌, refl, sym, ap, ap₂, ◌∙◌}
use Rattle.rewriting.specs.Prelude.{Term, var, app, Terms, nil, cons, apply, apply_all, compose, replacing}
use Rattle.rewriting.proofs.Instances.{apply-apply, apply_all-apply_all, apply-agree, apply_all-agree}
use Rattle.unifier_run.specs.Run.{Binding, value, extended}

-- a variable that was looked for before, and the rest of the bindings
value_step : (x y : ℕ) (v t : Term) (r r' : Term) (b : Bool) → (b ≡ false → r' ≡ apply (replacing x v) r) → if b then apply (replacing x v) t else r' ≡ apply (replacing x v) (if b then t else r)
value_step x y v t r r' true h = refl
value_step x y v t r r' false h = h refl

-- the new bindings are the old ones, then the new one
pub value-extended : (b : List Binding) (x : ℕ) (v : Term) (y : ℕ) → value (extended b x v) y ≡ apply (replacing x v) (value b y)
value-extended [] x v y = refl
value-extended (e ∷ b) x v y = value_step x y v e.term (value b y) (value (extended b x v) y) (nat_eq y e.variable) (λ _. value-extended b x v y)

pub apply-extended : (b : List Binding) (x : ℕ) (v t : Term) → apply (value (extended b x v)) t ≡ apply (replacing x v) (apply (value b) t)
apply-extended b x v t = apply-agree _ (compose (value b) (replacing x v)) t (λ y o. value-extended b x v y) ∙ sym (apply-apply (value b) (replacing x v) t)

pub apply_all-extended : (b : List Binding) (x : ℕ) (v : Term) (ts : Terms) → apply_all (value (extended b x v)) ts ≡ apply_all (replacing x v) (apply_all (value b) ts)
apply_all-extended b x v ts = apply_all-agree _ (compose (value b) (replacing x v)) ts (λ y o. value-extended b x v y) ∙ sym (apply_all-apply_all (value b) (replacing x v) ts)

mutual
  pub apply_nothing : (t : Term) → apply (value []) t ≡ t
  apply_nothing (var x) = refl
  apply_nothing (app f ts) = ap (app f) (apply_all_nothing ts)

  pub apply_all_nothing : (ts : Terms) → apply_all (value []) ts ≡ ts
  apply_all_nothing nil = refl
  apply_all_nothing (cons t ts) = ap₂ cons (apply_nothing t) (apply_all_nothing ts)
