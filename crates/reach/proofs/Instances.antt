-- Cells of instances that are not built, and the room that they leave.
use Rattle.std.proofs.Common.{◌≡◌, ℕ, suc, ◌+◌, ◌*◌, ◌<◌, ◌⊎◌, inl, inr, Result, OnOk, List, [], ◌∷◌, ◌++◌, length, append_assoc, Option, None, Some, IfNone}
use Rattle.std.proofs.Common.{refl, sym, ap, ◌∙◌, Vec, Global, arith}
use Rattle.std.specs.FinMap.{get}
use Rattle.rewriting.specs.Terms as math
use Rattle.rewriting.specs.Prelude.{app, nil, cons, count, size, depth, Bindings, apply, apply_all, values_of}
use Rattle.rewriting.proofs.Tests.{depth_small}
use Rattle.term_core.specs.View.{view, views}
use Rattle.term_core.specs.declared.terms.Term.{Term}
use Rattle.term_core.specs.declared.terms.Term.TheVariants.{Fun}
use Rattle.term_core.proofs.Views.{view-Fun}
use Rattle.reach.specs.Keys.{cells, all_cells}
use Rattle.term_core.proofs.Over.{count-views}
use Rattle.reach.proofs.Cells.{on_ok}

-- a variable has its value
pub value_is : (b : Bindings) (x : ℕ) (u : math.Term) → get b x ≡ Some u → values_of b x ≡ u
value_is b x u e = rw e refl

as_many : (b : Bindings) (ts : math.Terms) → count (apply_all (values_of b) ts) ≡ count ts
as_many b nil = refl
as_many b (cons t ts) = ap suc (as_many b ts)

module _ (b : Bindings) (t : Term) (f : ℕ) (v : Vec Term Global) (is : t ≡ Fun f v) where
  whole : apply (values_of b) (view t) ≡ app f (apply_all (values_of b) (views v.items))
  whole = ap (λ z. apply (values_of b) z) (ap view is ∙ view-Fun f v)

  -- the cells of a symbol, and behind them those of its arguments
  pub symbol_cells : {T E : Type 0} (old one new : List ℕ) (n : ℕ) (r : Result T E) → n ≡ length v.items → one ≡ old ++ (65536 * f + n + 1) ∷ []
      → OnOk r (new ≡ one ++ all_cells (apply_all (values_of b) (views v.items))) → OnOk r (new ≡ old ++ cells (apply (values_of b) (view t)))
  symbol_cells old one new n r many e h =
      let ts = apply_all (values_of b) (views v.items) in
      let c = count-views v.items in
      let same = as_many b (views v.items) in
      let head : 65536 * f + count ts + 1 ≡ 65536 * f + n + 1 = omega (arith, many, c, same) in
      let all : cells (apply (values_of b) (view t)) ≡ (65536 * f + n + 1) ∷ all_cells ts = ap cells whole ∙ ap (λ z. z ∷ all_cells ts) head in
      on_ok r (new ≡ one ++ all_cells ts) (new ≡ old ++ cells (apply (values_of b) (view t)))
      (λ x. x ∙ ap (λ z. z ++ all_cells ts) e ∙ append_assoc old ((65536 * f + n + 1) ∷ []) (all_cells ts) ∙ ap (λ z. old ++ z) (sym all)) h

-- a term of no more nodes has no more levels
pub no_room : (t : math.Term) (room : ℕ) → (room < size t) ⊎ (room < depth t) → room < size t
no_room t room (inl h) = h
no_room t room (inr h) = let d = depth_small t in omega (arith, h, d)

pub value_none : (t u : math.Term) (room : ℕ) (o : Option ℕ) → t ≡ u → IfNone o ((room < size t) ⊎ (room < depth t)) → IfNone o (room < size u)
value_none t u room None e h = let k = ap size e in let n = no_room t room h in omega (arith, n, k)
value_none t u room (Some left) e h = h
