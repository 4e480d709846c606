-- The instance of a term, argument by argument.
use Rattle.std.proofs.Common.{◌≡◌, ℕ, suc, ◌≤◌, ◌<◌, ◌+◌, ◌-◌, ◌⊎◌, inl, inr, max, List, [], ◌∷◌, map, arith, Vec, Global, refl, sym, ap, ◌∙◌}
use Rattle.rewriting.specs.Terms as math
use Rattle.rewriting.specs.Prelude.{app, cons, terms_of, apply, apply_all}
use Rattle.term_core.specs.View.{view, views}
use Rattle.term_core.specs.declared.terms.Term.{Term, Fun}
use Rattle.term_core.proofs.Views.{view-Fun}

instances : (s : ℕ → math.Term) (ts : List Term) → terms_of (map (λ t. apply s (view t)) ts) ≡ apply_all s (views ts)
instances s [] = refl
instances s (t ∷ ts) = ap (cons (apply s (view t))) (instances s ts)

pub apply-Fun : (s : ℕ → math.Term) (t : Term) (f : ℕ) (v w : Vec Term Global) → t ≡ Fun f v → map view w.items ≡ map (λ u. apply s (view u)) v.items
    → view (Fun f w) ≡ apply s (view t)
apply-Fun s t f v w is e =
    view-Fun f w ∙ ap (app f) (ap terms_of e ∙ instances s v.items) ∙ sym (ap (apply s) (ap view is ∙ view-Fun f v))

pub size_apply-Fun : (s : ℕ → math.Term) (t : Term) (f : ℕ) (v : Vec Term Global) → t ≡ Fun f v → math.size (apply s (view t)) ≡ suc (math.size_all (apply_all s (views v.items)))
size_apply-Fun s t f v is = ap (λ u. math.size (apply s u)) (ap view is ∙ view-Fun f v)

pub depth_apply-Fun : (s : ℕ → math.Term) (t : Term) (f : ℕ) (v : Vec Term Global) → t ≡ Fun f v → math.depth (apply s (view t)) ≡ suc (math.depth_all (apply_all s (views v.items)))
depth_apply-Fun s t f v is = ap (λ u. math.depth (apply s u)) (ap view is ∙ view-Fun f v)

pub size_some : (t : math.Term) → 1 ≤ math.size t
size_some (math.var x) = omega arith
size_some (math.app f ts) = omega arith

pub depth_some : (t : math.Term) → 1 ≤ math.depth t
depth_some (math.var x) = omega arith
depth_some (math.app f ts) = omega arith

-- no term has no nodes or no levels
pub no_room : (t : math.Term) (room levels : ℕ) → (room ≡ 0) ⊎ ((room ≡ 0 → ⊥) × (levels ≡ 0)) → (room < math.size t) ⊎ (levels < math.depth t)
no_room t room levels (inl e) = inl (omega (arith, e, size_some t))
no_room t room levels (inr e) = inr (omega (arith, e.1, depth_some t))

-- where an argument does not fit into what is left, the whole does not fit
pub no_room_within : (room left levels whole deepest first rest high higher : ℕ) → left + 1 + whole ≡ room + (first + rest) → max high higher ≤ deepest
    → (left < first) ⊎ (levels - 1 < high) → (room < suc whole) ⊎ (levels < suc deepest)
no_room_within room left levels whole deepest first rest high higher nodes depth (inl h) = inl (omega arith)
no_room_within room left levels whole deepest first rest high higher nodes depth (inr h) = inr (omega arith)
